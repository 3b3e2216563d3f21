-- An instance of a tested part of a left side stays one under every development.
use Rattle.std.proofs.Common.{◌≡◌, ◌≢◌, ℕ, zero, suc, List, [], ◌∷◌, ◌++◌, Some, refl, sym, ◌∙◌, ap, subst}
use Rattle.std.specs.Prelude.{Contains, nat_eq}
use Rattle.std.specs.List.{AllByRecursion, IsDistinct}
use Rattle.eq_base.specs.Tree.{Tree, Forest, node, empty, grow, head_of, Position, subtree_at, subtree_in}
use Rattle.eq_base.specs.Pattern.{PatternCell, fixed, variable, restricted, IsTested, IsConstantOf, variables, all_variables, IsLinear, restrictions, all_restrictions, Substitution, apply, apply_all, Respects, IsInstanceOf}
use Rattle.eq_base.specs.Rewriting.{System, Rule, IsRedex}
use Rattle.eq_base.specs.Testing.{IsTestedAt, IsPattern, ArePatterns}
use Rattle.eq_base.proofs.Lists.{all_front, all_back}
use Rattle.eq_base.proofs.Instances.{Fits, FitAll, instance_from_fits}
use Rattle.orthogonal_laws.specs.Orthogonal.{IsWellFormedSystem, IsOrthogonal}
use Rattle.orthogonal_laws.specs.Strategy.{HasNoDemandedRedex, none_demanded}
use Rattle.orthogonal_laws.specs.Development.{Development, unmarked, marked, Developments, none, more}
use Rattle.orthogonal_laws.proofs.CleanParts.{marked_redex}
use Rattle.orthogonal_laws.proofs.NextLaws.{part_without_demand}
use Rattle.eq_base.proofs.Numbers.{subtree-append}

-- ---- a part of a linear pattern is linear

distinct_front : (xs ys : List ℕ) → IsDistinct nat_eq (xs ++ ys) → IsDistinct nat_eq xs
unfolding IsDistinct
distinct_front [] ys d = tt
distinct_front (x ∷ xs) ys d = (all_front _ xs ys d.0, distinct_front xs ys d.1)

distinct_back : (xs ys : List ℕ) → IsDistinct nat_eq (xs ++ ys) → IsDistinct nat_eq ys
unfolding IsDistinct
distinct_back [] ys d = d
distinct_back (x ∷ xs) ys d = distinct_back xs ys d.1

module _ {H : Type 0} where
  mutual
    linear_at : (p : Tree (PatternCell H)) (q : Position) (part : Tree (PatternCell H)) → subtree_at p q ≡ Some part → IsPattern p → IsLinear p → IsLinear part
    linear_at p [] part e whole l = let same : p ≡ part = cc in subst (λ z. IsLinear z) same l
    linear_at (node (fixed h) ps) (i ∷ q) part e whole l = linear_in ps i q part e whole l
    linear_at (node (variable x) ps) (i ∷ q) part e whole l = absurd (no_part ps i q part whole e)
    linear_at (node (restricted x class) ps) (i ∷ q) part e whole l = absurd (no_part ps i q part whole e)

    linear_in : (ps : Forest (PatternCell H)) (i : ℕ) (q : Position) (part : Tree (PatternCell H)) → subtree_in ps i q ≡ Some part → ArePatterns ps → IsDistinct nat_eq (all_variables ps) → IsLinear part
    linear_in empty i q part e whole l = absurd (cc)
    linear_in (grow p ps) zero q part e whole l = linear_at p q part e whole.0 (distinct_front (variables p) (all_variables ps) l)
    linear_in (grow p ps) (suc i) q part e whole l = linear_in ps i q part e whole.1 (distinct_back (variables p) (all_variables ps) l)

    pub no_part : (ps : Forest (PatternCell H)) (i : ℕ) (q : Position) (part : Tree (PatternCell H)) → ps ≡ empty → subtree_in ps i q ≡ Some part → ⊥
    no_part empty i q part e e' = cc
    no_part (grow p ps) i q part e e' = cc

module _ {H : Type 0} (system : System H) where
  -- an instance of a tested part of the pattern is no redex
  abbrev pub IsClean : Tree (PatternCell H) → Type 0
  IsClean p = (q : Position) (part : Tree (PatternCell H)) → subtree_at p q ≡ Some part → IsTested (head_of part) → (t : Tree H) → IsInstanceOf system.in_class part t → IsRedex system t → ⊥

  abbrev pub AreClean : Forest (PatternCell H) → Type 0
  AreClean ps = (i : ℕ) (q : Position) (part : Tree (PatternCell H)) → subtree_in ps i q ≡ Some part → IsTested (head_of part) → (t : Tree H) → IsInstanceOf system.in_class part t → IsRedex system t → ⊥

  -- what is no redex keeps its head, and its arguments develop
  record Below (h : H) (ts : Forest H) (u : Tree H) : Type 0 where
    us : Forest H
    weight : ℕ
    is : u ≡ node h us
    developments : Developments system ts us weight

  below_of : {t u : Tree H} {n : ℕ} → Development system t u n → (IsRedex system t → ⊥) → (h : H) (ts : Forest H) → t ≡ node h ts → Below h ts u
  below_of (unmarked {h = g} {ts = ss} {us = us} {n = n} ds) stuck h ts e =
      let same : g ≡ h = cc in
      let same' : ss ≡ ts = cc in
      record { us = us; weight = n; is = ap (λ z. node z us) same; developments = subst (λ z. Developments system z us n) same' ds }
  below_of (marked {t = t} {u = u} rule σ τ ws listed applied respects ds gives) stuck h ts e = absurd (stuck (marked_redex system t u rule σ τ listed applied respects gives))

  constant_stays : (class : ℕ) (t : Tree H) {u : Tree H} {n : ℕ} → IsConstantOf system.in_class class t → (IsRedex system t → ⊥) → Development system t u n → IsConstantOf system.in_class class u
  constant_stays class (node g empty) {u} {n} c stuck d =
      let b = below_of d stuck g empty refl in
      subst (λ z. IsConstantOf system.in_class class z) (sym b.is) (of_none b.us b.developments)
    where
      of_none : (us : Forest H) {m : ℕ} → Developments system empty us m → IsConstantOf system.in_class class (node g us)
      of_none us none = c
  constant_stays class (node g (grow t ts)) c stuck d = absurd c

  module _ (σ : Substitution H) where
    mutual
      -- where no tested part is a redex, all heads that were met stay
      fits_still : (p : Tree (PatternCell H)) → Respects system.in_class σ p → IsClean p → {u : Tree H} {n : ℕ} → Development system (apply σ p) u n → Fits system.in_class p u
      fits_still (node (fixed h) ps) respects clean d =
          let b = below_of d (clean [] (node (fixed h) ps) refl tt (node h (apply_all σ ps)) (record { substitution = σ; respects = respects; applied = refl })) h (apply_all σ ps) refl in
          let fits = all_fit_still ps respects (λ i q. clean (i ∷ q)) b.developments in
          subst (λ z. Fits system.in_class (node (fixed h) ps) z) (sym b.is) (refl, fits)
      fits_still (node (variable x) ps) respects clean d = tt
      fits_still (node (restricted x class) ps) respects clean d =
          constant_stays class (σ x) respects.0 (clean [] (node (restricted x class) ps) refl tt (σ x) (record { substitution = σ; respects = respects; applied = refl })) d

      all_fit_still : (ps : Forest (PatternCell H)) → AllByRecursion (λ r. IsConstantOf system.in_class r.1 (σ r.0)) (all_restrictions ps) → AreClean ps → {us : Forest H} {n : ℕ} → Developments system (apply_all σ ps) us n → FitAll system.in_class ps us
      all_fit_still empty respects clean none = tt
      all_fit_still (grow p ps) respects clean (more d ds) = (
        fits_still p (all_front _ (restrictions p) (all_restrictions ps) respects) (λ q. clean 0 q) d,
        all_fit_still ps (all_back _ (restrictions p) (all_restrictions ps) respects) (λ i. clean (suc i)) ds,
      )

  pub no_root : {t : Tree H} → HasNoDemandedRedex system t → IsRedex system t → ⊥
  no_root (none_demanded stuck others) = stuck

  -- an instance of a tested part of a left side, other than the whole, stays one
  pub part_stays : IsWellFormedSystem system → IsOrthogonal system → (rule : Rule H) → Contains system.rules rule → (q : Position) → q ≢ [] → (tested : IsTestedAt rule.left q) → (t u : Tree H) (n : ℕ) → IsInstanceOf system.in_class tested.part t → Development system t u n → IsInstanceOf system.in_class tested.part u
  part_stays w o rule listed q below tested t u n i d =
      let clean : IsClean tested.part = λ p part stands here s is redex.
      no_root (part_without_demand system w o rule listed (q ++ p) (longer q p below) (record { part = part; stands = subtree-append rule.left q p tested.part tested.stands ∙ stands; tested = here }) s is) redex in
      instance_from_fits system.in_class tested.part u (linear_at rule.left q tested.part tested.stands (w.patterns rule listed) (o.linear rule listed))
      (fits_still i.substitution tested.part i.respects clean (subst (λ z. Development system z u n) (sym i.applied) d))
    where
      longer : (q p : Position) → q ≢ [] → q ++ p ≢ []
      longer [] p some = absurd (some refl)
      longer (j ∷ q) p some = λ e. cc
