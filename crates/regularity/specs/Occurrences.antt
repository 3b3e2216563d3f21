-- Occurrences of variables in patterns, by their positions' numbers in preorder.
use Rattle.std.specs.Prelude.{◌≡◌, ℕ, ◌<◌, Option, Some, None}
use Rattle.eq_base.specs.Tree.{Tree, head_of, size, nth_subtree}
use Rattle.eq_base.specs.Pattern.{PatternCell, fixed, variable, restricted, IsTested}

module _ {H : Type 0} where
  -- the variable, plain or restricted, if the cell is one
  abbrev pub variable_of : PatternCell H → Option ℕ
  variable_of (fixed h) = None
  variable_of (variable x) = Some x
  variable_of (restricted x class) = Some x

  -- the variable, plain or restricted, occurs in the pattern at the position with this number in preorder
  pub record OccursAt (p : Tree (PatternCell H)) (at x : ℕ) : Type 0 where
    pub there : at < size p
    pub is : variable_of (head_of (nth_subtree p at)) ≡ Some x

  -- the variable occurs before the position
  pub record OccursBefore (p : Tree (PatternCell H)) (end x : ℕ) : Type 0 where
    pub at : ℕ
    pub before : at < end
    pub occurs : OccursAt p at x

  -- the variable at the position occurs before
  pub record Repeats (p : Tree (PatternCell H)) (at : ℕ) : Type 0 where
    pub x : ℕ
    pub here : OccursAt p at x
    pub earlier : OccursBefore p at x

  -- the variable at the position of the right side does not occur on the left side
  pub record IsUnbound (left right : Tree (PatternCell H)) (at : ℕ) : Type 0 where
    pub x : ℕ
    pub here : OccursAt right at x
    pub not_left : (k : ℕ) → OccursAt left k x → ⊥

  -- the position with this number is one of the pattern, and is tested
  pub record IsTestedPlace (p : Tree (PatternCell H)) (at : ℕ) : Type 0 where
    pub there : at < size p
    pub tested : IsTested (head_of (nth_subtree p at))
