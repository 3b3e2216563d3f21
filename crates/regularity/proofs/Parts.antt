-- Parts of left sides are as the left sides: they repeat no variable, and their classes have heads.
use Rattle.std.proofs.Common.{◌≡◌, ℕ, ◌+◌, ◌<◌, List, Some, ◌∙◌, ap, subst, arith}
use Rattle.std.specs.Prelude.{◌↔◌, slice_get}
use Rattle.std.specs.List.{AllByRecursion}
use Rattle.std.proofs.lemmas.Option.{slice_get_within, get_or_from_slice_get}
use Rattle.eq_base.specs.Tree.{Tree, Forest, node, empty, grow, head_of, size, subtrees, all_subtrees, nth_subtree}
use Rattle.eq_base.specs.Pattern.{PatternCell, fixed, variable, restricted, restrictions, all_restrictions}
use Rattle.eq_base.specs.Meeting.{in_class_of}
use Rattle.eq_base.specs.RuleList.{RuleList}
use Rattle.eq_base.specs.declared.head.Head.{Head}
use Rattle.eq_base.specs.declared.rules.Equation.{Equation}
use Rattle.eq_base.proofs.Lists.{all_front, all_back, all_both, all_at}
use Rattle.eq_base.proofs.Trees.{length-subtrees, end_within, nth_subtree-nth_subtree}
use Rattle.regularity.specs.Arities.{HasArities, HaveArities}
use Rattle.regularity.specs.Common.{HaveCommon}
use Rattle.regularity.specs.Occurrences.{variable_of, OccursAt, Repeats}
use Rattle.regularity.specs.Shared.{HaveHeads, LeftSidesHaveHeads, HaveSharedInstance}
use Rattle.regularity.specs.Violations.{IsListedSingle}
use Rattle.regularity.specs.WellFormed.{AreWellFormed}
use Rattle.regularity.proofs.Listed.{part_has_arities, has_arities_at}
use Rattle.regularity.proofs.Shared.{HasHead, AllHaveHeads, common_is_shared}

-- ---- variables

module _ (p : Tree (PatternCell Head)) (k : ℕ) (lt : k < size p) where
  occurs_there : (at x : ℕ) → OccursAt (nth_subtree p k) at x → OccursAt p (k + at) x
  occurs_there at x o = record {
    there = omega (arith, o.there, end_within p k lt);
    is = ap (λ s. variable_of (head_of s)) (nth_subtree-nth_subtree p k at lt o.there) ∙ o.is;
  }

  repeats_there : (at : ℕ) → Repeats (nth_subtree p k) at → Repeats p (k + at)
  repeats_there at r = record {
    x = r.x;
    here = occurs_there at r.x r.here;
    earlier = record { at = k + r.earlier.at; before = omega (arith, r.earlier.before); occurs = occurs_there r.earlier.at r.x r.earlier.occurs };
  }

-- ---- classes

module _ (classes : List (List Head)) (arity : Head → ℕ) where
  mutual
    parts_have : (p : Tree (PatternCell Head)) → HasArities arity p → HaveHeads classes p → AllByRecursion (HaveHeads classes) (subtrees p)
    parts_have (node (fixed h) ps) a k = (k, all_parts_have ps a.1 k)
    parts_have (node (variable x) ps) a k = (k, rw a tt)
    parts_have (node (restricted x class) ps) a k = (k, rw a tt)

    all_parts_have : (ps : Forest (PatternCell Head)) → HaveArities arity ps → AllHaveHeads classes ps → AllByRecursion (HaveHeads classes) (all_subtrees ps)
    all_parts_have empty a k = tt
    all_parts_have (grow p ps) a k =
        all_both (HaveHeads classes) (subtrees p) (all_subtrees ps)
        (parts_have p a.0 (all_front (HasHead classes) (restrictions p) (all_restrictions ps) k))
        (all_parts_have ps a.1 (all_back (HasHead classes) (restrictions p) (all_restrictions ps) k))

  part_has_heads : (p : Tree (PatternCell Head)) (k : ℕ) → k < size p → HasArities arity p → HaveHeads classes p → HaveHeads classes (nth_subtree p k)
  part_has_heads p k lt a heads = all_at (HaveHeads classes) (subtrees p) k p (rw (length-subtrees p) lt) (parts_have p a heads)

-- ---- the law

module _ (rules : RuleList) (w : AreWellFormed rules) (heads : LeftSidesHaveHeads rules) where
  heads_at : (n : ℕ) (e : Equation) → slice_get rules.equations n ≡ Some e → HaveHeads rules.classes e.left
  heads_at n e listed = subst (λ (d : Equation). HaveHeads rules.classes d.left) (get_or_from_slice_get rules.equations n e e listed) (heads n e (slice_get_within rules.equations n e listed))

  pub part_is_shared : (n m place : ℕ) (one other : Equation) → IsListedSingle rules n one → IsListedSingle rules m other → place < size one.left → HaveCommon (in_class_of rules.classes) (nth_subtree one.left place) other.left ↔ HaveSharedInstance rules.classes (nth_subtree one.left place) other.left
  part_is_shared n m place one other l l' lt = common_is_shared rules.classes (nth_subtree one.left place) other.left (record {
    one_linear = λ at r. l.single.linear (place + at) (repeats_there one.left place lt at r);
    other_linear = l'.single.linear;
    one_classes = part_has_heads rules.classes w.arity one.left place lt (has_arities_at rules w n one l.listed) (heads_at n one l.listed);
    other_classes = heads_at m other l'.listed;
    arity = w.arity;
    one = part_has_arities w.arity one.left place lt (has_arities_at rules w n one l.listed);
    other = has_arities_at rules w m other l'.listed;
    constants = w.constants;
  })
