-- What regular equations say of the sides of one of them.
use Rattle.std.proofs.Common.{◌≡◌, ℕ, zero, suc, ◌<◌, ◌≤◌, List, [], ◌∷◌, length, get_or, Some, None, sym, ◌∙◌, ap, subst, arith}
use Rattle.std.specs.Prelude.{slice_get, Contains}
use Rattle.std.specs.List.{AllByRecursion}
use Rattle.eq_base.specs.Tree.{Tree, size}
use Rattle.eq_base.specs.Pattern.{PatternCell, variables, IsLinear}
use Rattle.eq_base.specs.RuleList.{RuleList}
use Rattle.eq_base.specs.Rewriting.{System}
use Rattle.eq_base.specs.Rules.{right_side, rule_of, system_of}
use Rattle.eq_base.specs.declared.head.Head as heads
use Rattle.eq_base.specs.declared.rules.Right.TheVariants as rights
use Rattle.eq_base.specs.declared.rules.Equation.{Equation}
use Rattle.regularity.specs.WellFormed.{HasSymbolRoot, IsWellFormed}
use Rattle.sequentiality.specs.Regular.{AreRegular}
use Rattle.orthogonal_laws.specs.Orthogonal.{IsBound, IsOrthogonal}
use Rattle.orthogonal_laws.proofs.RegularLists.{regular_orthogonal}
use Rattle.orthogonal_laws.proofs.Members.{get-in, in-map, in-contains}
use Rattle.term_graph.specs.Sides.{HasSides}

listed-at : {A : Type 0} (xs : List A) (k : ℕ) (x d : A) → slice_get xs k ≡ Some x → (k < length xs) × (get_or xs k d ≡ x)
listed-at [] k x d e = absurd (cc)
listed-at (y ∷ ys) zero x d e = (omega arith, cc)
listed-at (y ∷ ys) (suc k) x d e = let r = listed-at ys k x d e in (omega (arith, r.0), r.1)

module _ (rules : RuleList) (regular : AreRegular rules) (number : ℕ) (left right : Tree (PatternCell heads.Head)) (sides : HasSides rules number left right) where
  pub number-below : number < length rules.equations
  number-below = (listed-at rules.equations number sides.equation sides.equation sides.listed).0

  well_formed_one : IsWellFormed sides.equation
  well_formed_one = subst IsWellFormed (listed-at rules.equations number sides.equation sides.equation sides.listed).1 (regular.well_formed.each number sides.equation number-below)

  pub left-root : HasSymbolRoot left
  left-root = subst HasSymbolRoot sides.left_is well_formed_one.root

  pub left-small : size left ≤ 255
  left-small = omega (arith, ap size sides.left_is, well_formed_one.left_size)

  -- the equations where no operation has a value
  abbrev plain_system : System heads.Head
  plain_system = system_of (λ op t. None) rules

  orthogonal : IsOrthogonal plain_system
  orthogonal = regular_orthogonal (λ op t. None) rules regular

  member : Contains plain_system.rules (rule_of sides.equation)
  member = in-contains (in-map rule_of (get-in rules.equations number sides.equation sides.listed))

  pub left-linear : IsLinear left
  left-linear = subst IsLinear sides.left_is (orthogonal.linear (rule_of sides.equation) member)

  pub right-bound : AllByRecursion (λ x. Contains (variables left) x) (variables right)
  right-bound =
      subst (λ p. AllByRecursion (λ x. Contains (variables p) x) (variables right)) sides.left_is
      (subst (λ r. IsBound (variables sides.equation.left) r) (ap right_side sides.right_is) (orthogonal.bound (rule_of sides.equation) member))

  -- the sides are the only ones
  pub same_sides : (left' right' : Tree (PatternCell heads.Head)) → HasSides rules number left' right' → (left ≡ left') × (right ≡ right')
  same_sides left' right' s =
      let e : sides.equation ≡ s.equation = some_same sides.equation s.equation (sym sides.listed ∙ s.listed) in
      (sym sides.left_is ∙ ap (λ (q : Equation). q.left) e ∙ s.left_is, tree_same right right' (sym sides.right_is ∙ ap (λ (q : Equation). q.right) e ∙ s.right_is))
    where
      some_same : (p q : Equation) → Some p ≡ Some q → p ≡ q
      some_same p q z = cc

      tree_same : (p q : Tree (PatternCell heads.Head)) → rights.Tree p ≡ rights.Tree q → p ≡ q
      tree_same p q z = cc
