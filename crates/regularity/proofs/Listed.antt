-- Equations of well-formed lists.
use Rattle.std.proofs.Common.{◌≡◌, ℕ, ◌<◌, Some, refl, subst}
use Rattle.std.specs.Prelude.{slice_get}
use Rattle.std.specs.List.{AllByRecursion}
use Rattle.std.proofs.lemmas.Option.{slice_get_within, get_or_from_slice_get}
use Rattle.eq_base.specs.Tree.{Tree, Forest, node, empty, grow, size, subtrees, all_subtrees, nth_subtree}
use Rattle.eq_base.specs.Pattern.{PatternCell, fixed, variable, restricted}
use Rattle.eq_base.specs.RuleList.{RuleList}
use Rattle.eq_base.specs.declared.rules.Equation.{Equation}
use Rattle.eq_base.proofs.Lists.{all_both, all_at}
use Rattle.eq_base.proofs.Trees.{length-subtrees}
use Rattle.regularity.specs.Arities.{HasArities, HaveArities, AgreeOnArities}
use Rattle.regularity.specs.WellFormed.{IsWellFormed, AreWellFormed}

pub nth_subtree-zero : {A : Type 0} (t : Tree A) → nth_subtree t 0 ≡ t
nth_subtree-zero (node a args) = refl

module _ {H : Type 0} (arity : H → ℕ) where
  mutual
    subtrees_have : (p : Tree (PatternCell H)) → HasArities arity p → AllByRecursion (HasArities arity) (subtrees p)
    subtrees_have (node (fixed h) ps) a = (a, all_subtrees_have ps a.1)
    subtrees_have (node (variable x) ps) a = (a, rw a tt)
    subtrees_have (node (restricted x class) ps) a = (a, rw a tt)

    all_subtrees_have : (ps : Forest (PatternCell H)) → HaveArities arity ps → AllByRecursion (HasArities arity) (all_subtrees ps)
    all_subtrees_have empty a = tt
    all_subtrees_have (grow p ps) a = all_both (HasArities arity) (subtrees p) (all_subtrees ps) (subtrees_have p a.0) (all_subtrees_have ps a.1)

  pub part_has_arities : (p : Tree (PatternCell H)) (k : ℕ) → k < size p → HasArities arity p → HasArities arity (nth_subtree p k)
  part_has_arities p k lt a = all_at (HasArities arity) (subtrees p) k p (rw (length-subtrees p) lt) (subtrees_have p a)

module _ (rules : RuleList) (w : AreWellFormed rules) where
  pub well_formed_at : (n : ℕ) (e : Equation) → slice_get rules.equations n ≡ Some e → IsWellFormed e
  well_formed_at n e listed = subst IsWellFormed (get_or_from_slice_get rules.equations n e e listed) (w.each n e (slice_get_within rules.equations n e listed))

  pub has_arities_at : (n : ℕ) (e : Equation) → slice_get rules.equations n ≡ Some e → HasArities w.arity e.left
  has_arities_at n e listed = subst (λ (d : Equation). HasArities w.arity d.left) (get_or_from_slice_get rules.equations n e e listed) (w.arities n e (slice_get_within rules.equations n e listed))

  -- a part of a left side and a left side agree on the number of arguments
  pub agree_at_part : (n : ℕ) (e : Equation) (m : ℕ) (d : Equation) → slice_get rules.equations n ≡ Some e → slice_get rules.equations m ≡ Some d → (k : ℕ) → k < size e.left → AgreeOnArities (nth_subtree e.left k) d.left
  agree_at_part n e m d listed listed' k lt = record {
    arity = w.arity;
    one = part_has_arities w.arity e.left k lt (has_arities_at n e listed);
    other = has_arities_at m d listed';
  }

  pub agree_at_root : (n : ℕ) (e : Equation) (m : ℕ) (d : Equation) → slice_get rules.equations n ≡ Some e → slice_get rules.equations m ≡ Some d → AgreeOnArities e.left d.left
  agree_at_root n e m d listed listed' = record { arity = w.arity; one = has_arities_at n e listed; other = has_arities_at m d listed' }
