-- Substitutions that respect the classes of patterns whose variables stand with them.
use Rattle.std.proofs.Common.{◌≡◌, ℕ, [], Option, Some, None, sym, ap, ◌∙◌, subst, ⊎_elim}
use Rattle.std.specs.Prelude.{Contains}
use Rattle.std.specs.List.{AllByRecursion}
use Rattle.std.proofs.lemmas.List.Elements.{Contains-append_left, Contains-append_right, Contains-append_cases}
use Rattle.eq_base.specs.Tree.{Tree, Forest, node, empty, grow}
use Rattle.eq_base.specs.Pattern.{PatternCell, fixed, variable, restricted, variables, all_variables, restrictions, all_restrictions, Classes, Substitution, IsConstantOf, Respects}
use Rattle.eq_base.proofs.Lists.{all_front, all_back, all_both}
use Rattle.qualifiers.specs.Classes.{HasClasses, HaveClasses}
use Rattle.qualifiers.proofs.Members.{contains_none, contains_first, contains_here}

module _ {H : Type 0} (in_class : Classes H) (class_of : ℕ → Option ℕ) (σ : Substitution H) where
  -- the variable has a constant of its class, if it has one
  abbrev pub HasConstant : ℕ → Type 0
  HasConstant x = (class : ℕ) → class_of x ≡ Some class → IsConstantOf in_class class (σ x)

  -- the restricted variable has a constant of the class
  abbrev RespectsOne : ℕ × ℕ → Type 0
  RespectsOne r = IsConstantOf in_class r.1 (σ r.0)

  -- where a pattern's classes are respected, each of its variables has a constant of its class
  mutual
    pub constants_of : (p : Tree (PatternCell H)) → HasClasses class_of p → Respects in_class σ p → (x : ℕ) → Contains (variables p) x → HasConstant x
    constants_of (node (fixed h) ps) has r x c class is = all_constants_of ps has r x c class is
    constants_of (node (variable y) ps) has r x c class is =
        let both : ◌≡◌ {A = Option ℕ} None (Some class) = sym has ∙ ap class_of (contains_here x y c) ∙ is in cc
    constants_of (node (restricted y own) ps) has r x c class is =
        let here = contains_here x y c in
        let both : Some own ≡ Some class = sym has ∙ ap class_of here ∙ is in
        let same : own ≡ class = cc in
        subst (λ k. IsConstantOf in_class k (σ x)) same (subst (λ z. IsConstantOf in_class own (σ z)) here r.0)

    all_constants_of : (ps : Forest (PatternCell H)) → HaveClasses class_of ps → AllByRecursion RespectsOne (all_restrictions ps) → (x : ℕ) → Contains (all_variables ps) x → HasConstant x
    all_constants_of empty has r x c class is = absurd (contains_none x c)
    all_constants_of (grow p ps) has r x c class is =
        ⊎_elim
        (λ first. constants_of p has.0 (all_front RespectsOne (restrictions p) (all_restrictions ps) r) x first class is)
        (λ later. all_constants_of ps has.1 (all_back RespectsOne (restrictions p) (all_restrictions ps) r) x later class is)
        (Contains-append_cases (variables p) (all_variables ps) x c)

  -- where each of its variables has one, the pattern's classes are respected
  mutual
    pub respects_of : (p : Tree (PatternCell H)) → HasClasses class_of p → ((x : ℕ) → Contains (variables p) x → HasConstant x) → Respects in_class σ p
    respects_of (node (fixed h) ps) has each = all_respects_of ps has each
    respects_of (node (variable x) ps) has each = tt
    respects_of (node (restricted x class) ps) has each = (each x (contains_first x []) class has, tt)

    all_respects_of : (ps : Forest (PatternCell H)) → HaveClasses class_of ps → ((x : ℕ) → Contains (all_variables ps) x → HasConstant x) → AllByRecursion RespectsOne (all_restrictions ps)
    all_respects_of empty has each = tt
    all_respects_of (grow p ps) has each =
        all_both RespectsOne (restrictions p) (all_restrictions ps)
        (respects_of p has.0 (λ x c. each x (Contains-append_left (variables p) (all_variables ps) x c)))
        (all_respects_of ps has.1 (λ x c. each x (Contains-append_right (variables p) (all_variables ps) x c)))

  -- a substitution that respects the classes of one pattern respects those of another over its variables
  pub respects_over : (p q : Tree (PatternCell H)) → HasClasses class_of p → HasClasses class_of q → ((x : ℕ) → Contains (variables q) x → Contains (variables p) x) → Respects in_class σ p → Respects in_class σ q
  respects_over p q has has' over r = respects_of q has' (λ x c. constants_of p has r x (over x c))
