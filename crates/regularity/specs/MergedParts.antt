-- Words of private functions alone: parts of the merge of two left sides, as they are found.
use Rattle.std.specs.Prelude.{◌≡◌, ◌↔◌, ℕ, ◌≤◌, Bool, IsTrue, List}
use Rattle.eq_base.specs.Limits.{most_left_cells}
use Rattle.eq_base.specs.Tree.{Tree, size, nth_subtree}
use Rattle.eq_base.specs.Pattern.{PatternCell, fixed, variable, Substitution}
use Rattle.eq_base.specs.Meeting.{in_class_of}
use Rattle.eq_base.specs.declared.head.Head.{Head}
use Rattle.eq_base.specs.declared.head.Cell as cells
use Rattle.eq_base.specs.declared.head.Cell.TheVariants as cell
use Rattle.regularity.specs.Arities.{AgreeOnArities}
use Rattle.regularity.specs.Common.{HaveCommon}
use Rattle.regularity.specs.Merge.{merged, named, fill}
use Rattle.regularity.specs.Occurrences.{OccursAt}
use Rattle.regularity.specs.declared.merge.MergedPart.{MergedPart}

-- the part of the merged pattern that a variable of one pattern stands for: a part of the other one, its first cell with this name
abbrev pub part_of_merge : Tree (PatternCell Head) → MergedPart → Tree (PatternCell Head)
part_of_merge other part = named part.name (nth_subtree other part.at)

-- the pattern's variables are among those of the left side
abbrev pub IsOverLeft : (left right : Tree (PatternCell Head)) → Type 0
IsOverLeft left right = (at x : ℕ) → OccursAt right at x → (k : ℕ) × OccursAt left k x

-- the part of the merge that the variable stands for
abbrev pub IsPartOf : (left other : Tree (PatternCell Head)) → ℕ → MergedPart → Type 0
IsPartOf left other x part = (θ : Substitution (PatternCell Head)) → fill θ left ≡ merged left other
    → θ x ≡ part_of_merge other part

-- the answer tells whether the right side reads as the part, under the merge
abbrev pub ReadsAs : (left other right : Tree (PatternCell Head)) → Tree (PatternCell Head) → Bool → Type 0
ReadsAs left other right part answer = (θ : Substitution (PatternCell Head)) → fill θ left ≡ merged left other
    → IsTrue answer ↔ (fill θ right ≡ part)

-- the answer tells whether right sides read the same, under the merge
abbrev pub ReadsSame : (left right other other_right : Tree (PatternCell Head)) → Bool → Type 0
ReadsSame left right other other_right answer =
    (θ η : Substitution (PatternCell Head)) → fill θ left ≡ merged left other
    → fill η other ≡ merged other left → IsTrue answer ↔ (fill θ right ≡ fill η other_right)

-- a cell with its number of arguments, where a variable has this name
abbrev pub named_cell : ℕ → cells.Cell → PatternCell Head × ℕ
named_cell n (cell.Head h arity) = (fixed h, arity)
named_cell n (cell.Var x) = (variable n, 0)
named_cell n (cell.Class x class) = (variable n, 0)

-- the two patterns can be merged: they are small, agree on arguments, and have a common instance
pub record CanMerge (classes : List (List Head)) (left other : Tree (PatternCell Head)) : Type 0 where
  pub left_size : size left ≤ most_left_cells
  pub other_size : size other ≤ most_left_cells
  pub arities : AgreeOnArities left other
  pub common : HaveCommon (in_class_of classes) left other
