-- The rules of a system, with their left sides as tests on heads.
use Rattle.std.proofs.Common.{◌≡◌, ℕ, suc, ◌+◌, Bool, true, false, refl, sym, ◌∙◌, ap, subst, arith}
use Rattle.std.specs.Prelude.{IsTrue, ◌↔◌, ◌&&◌, nat_eq}
use Rattle.std.specs.List.{AllByRecursion}
use Rattle.std.proofs.lemmas.Bool.{eqb-true, eq-eqb}
use Rattle.eq_base.specs.Tree.{Tree, Forest, node, empty, grow, count}
use Rattle.eq_base.specs.Pattern.{PatternCell, fixed, variable, restricted, all_restrictions, Classes, Substitution, apply}
use Rattle.orthogonal_laws.proofs.Readings.{count_plain, readings}
use Rattle.eq_base.proofs.Lists.{all_both}
use Rattle.eq_base.proofs.Instances.{FitAll, FitAll-count, all_bindings, Agrees, agrees_front, agrees_back}
use Rattle.orthogonal_laws.proofs.LeftSides.{Label, Patterns, Last, Open, Test, length_of, Counted, Meets, skeleton, open_parts, nth}

pub both_true : {a b : Bool} → IsTrue a → IsTrue b → IsTrue (a && b)
both_true {a = true} e e' = e'
both_true {a = false} e e' = absurd (cc)

pub first_true : (a b : Bool) → IsTrue (a && b) → IsTrue a
first_true true b e = refl
first_true false b e = absurd (cc)

pub second_true : (a b : Bool) → IsTrue (a && b) → IsTrue b
second_true true b e = e
second_true false b e = absurd (cc)

module _ {H : Type 0} (same : H → H → Bool) (in_class : Classes H) where
  -- what a cell over n arguments demands of a head with its number of arguments
  abbrev pub test_of : PatternCell H → ℕ → Label H → Bool
  test_of (fixed g) n h = same g h.0 && nat_eq h.1 n
  test_of (variable x) n h = true
  test_of (restricted x class) n h = in_class class h.0 && nat_eq h.1 0

  abbrev pub tests : Forest (PatternCell H) → Patterns H
  tests empty = Last
  tests (grow (node (fixed g) ps) rest) = Test (λ h. test_of (fixed g) (count ps) h) (tests ps) (tests rest)
  tests (grow (node (variable x) ps) rest) = Open (tests rest)
  tests (grow (node (restricted x class) ps) rest) = Test (λ h. test_of (restricted x class) 0 h) Last (tests rest)

  abbrev pub args_tests : Tree (PatternCell H) → Patterns H
  args_tests (node (fixed g) ps) = tests ps
  args_tests (node (variable x) ps) = Last
  args_tests (node (restricted x class) ps) = Last

  pub tests-length : (ps : Forest (PatternCell H)) → length_of (tests ps) ≡ count ps
  tests-length empty = refl
  tests-length (grow (node (fixed g) qs) ps) = ap suc (tests-length ps)
  tests-length (grow (node (variable x) qs) ps) = ap suc (tests-length ps)
  tests-length (grow (node (restricted x class) qs) ps) = ap suc (tests-length ps)

  pub tests-counted : (ps : Forest (PatternCell H)) → Counted (tests ps)
  tests-counted empty = tt
  tests-counted (grow (node (fixed g) qs) ps) = (λ h e. eqb-true _ _ (second_true _ _ e) ∙ sym (tests-length qs), tests-counted qs, tests-counted ps)
  tests-counted (grow (node (variable x) qs) ps) = tests-counted ps
  tests-counted (grow (node (restricted x class) qs) ps) = (λ h e. eqb-true _ _ (second_true _ _ e), tt, tests-counted ps)

  module _ (decides : (g h : H) → IsTrue (same g h) ↔ (g ≡ h)) where
    -- trees meet the tests exactly where they fit the patterns
    pub fit-meets : (ps : Forest (PatternCell H)) (ts : Forest H) → FitAll in_class ps ts → Meets (tests ps) ts
    fit-meets empty empty f = tt
    fit-meets empty (grow t ts) f = absurd f
    fit-meets (grow p ps) empty f = absurd f
    fit-meets (grow (node (fixed g) qs) ps) (grow (node h us) ts) f =
        (both_true ((decides g h).1 f.0.0) (eq-eqb _ _ (sym (FitAll-count in_class qs us f.0.1))), fit-meets qs us f.0.1, fit-meets ps ts f.1)
    fit-meets (grow (node (variable x) qs) ps) (grow t ts) f = fit-meets ps ts f.1
    fit-meets (grow (node (restricted x class) qs) ps) (grow (node h empty) ts) f = (both_true f.0 refl, tt, fit-meets ps ts f.1)
    fit-meets (grow (node (restricted x class) qs) ps) (grow (node h (grow u us)) ts) f = absurd f.0

    pub meets-fit : (ps : Forest (PatternCell H)) (ts : Forest H) → Meets (tests ps) ts → FitAll in_class ps ts
    meets-fit empty empty m = tt
    meets-fit empty (grow t ts) m = absurd m
    meets-fit (grow (node (fixed g) qs) ps) empty m = absurd m
    meets-fit (grow (node (variable x) qs) ps) empty m = absurd m
    meets-fit (grow (node (restricted x class) qs) ps) empty m = absurd m
    meets-fit (grow (node (fixed g) qs) ps) (grow (node h us) ts) m = (((decides g h).0 (first_true _ _ m.0), meets-fit qs us m.1), meets-fit ps ts m.2)
    meets-fit (grow (node (variable x) qs) ps) (grow t ts) m = (tt, meets-fit ps ts m)
    meets-fit (grow (node (restricted x class) qs) ps) (grow (node h empty) ts) m = (first_true _ _ m.0, meets-fit ps ts m.2)
    meets-fit (grow (node (restricted x class) qs) ps) (grow (node h (grow u us)) ts) m = absurd m.1

  -- the skeleton fits as well
  pub skeleton-fit : (f : H) (ps : Forest (PatternCell H)) (ts : Forest H) → FitAll in_class ps ts → FitAll in_class ps (skeleton f (tests ps) ts)
  skeleton-fit f empty empty x = tt
  skeleton-fit f empty (grow t ts) x = absurd x
  skeleton-fit f (grow p ps) empty x = absurd x
  skeleton-fit f (grow (node (fixed g) qs) ps) (grow (node h us) ts) x = ((x.0.0, skeleton-fit f qs us x.0.1), skeleton-fit f ps ts x.1)
  skeleton-fit f (grow (node (variable y) qs) ps) (grow t ts) x = (tt, skeleton-fit f ps ts x.1)
  skeleton-fit f (grow (node (restricted y class) qs) ps) (grow (node h empty) ts) x = (x.0, skeleton-fit f ps ts x.1)
  skeleton-fit f (grow (node (restricted y class) qs) ps) (grow (node h (grow u us)) ts) x = absurd x.0

  -- the constants of restricted variables are those of the skeleton
  pub restricted-agree : (f : H) (σ τ : Substitution H) (ps : Forest (PatternCell H)) (ts : Forest H) → FitAll in_class ps ts → Agrees in_class σ (all_bindings in_class ps ts) → Agrees in_class τ (all_bindings in_class ps (skeleton f (tests ps) ts)) → AllByRecursion (λ r. σ r.0 ≡ τ r.0) (all_restrictions ps)
  restricted-agree f σ τ empty ts x a b = tt
  restricted-agree f σ τ (grow p ps) empty x a b = absurd x
  restricted-agree f σ τ (grow (node (fixed g) qs) ps) (grow (node h us) ts) x a b =
      all_both (λ r. σ r.0 ≡ τ r.0) (all_restrictions qs) (all_restrictions ps)
      (restricted-agree f σ τ qs us x.0.1 (agrees_front in_class σ (all_bindings in_class qs us) (all_bindings in_class ps ts) a) (agrees_front in_class τ (all_bindings in_class qs (skeleton f (tests qs) us)) (all_bindings in_class ps (skeleton f (tests ps) ts)) b))
      (restricted-agree f σ τ ps ts x.1 (agrees_back in_class σ (all_bindings in_class qs us) (all_bindings in_class ps ts) a) (agrees_back in_class τ (all_bindings in_class qs (skeleton f (tests qs) us)) (all_bindings in_class ps (skeleton f (tests ps) ts)) b))
  restricted-agree f σ τ (grow (node (variable y) qs) ps) (grow t ts) x a b = restricted-agree f σ τ ps ts x.1 a.1 b.1
  restricted-agree f σ τ (grow (node (restricted y class) qs) ps) (grow (node h empty) ts) x a b = (a.0 ∙ sym b.0, restricted-agree f σ τ ps ts x.1 a.1 b.1)
  restricted-agree f σ τ (grow (node (restricted y class) qs) ps) (grow (node h (grow u us)) ts) x a b = absurd x.0

  -- ρ gives the trees the numbers from n on
  abbrev pub Numbers : Substitution H → ℕ → Forest H → Type 0
  Numbers ρ n empty = Unit {0}
  Numbers ρ n (grow t ts) = (ρ n ≡ t) × Numbers ρ (suc n) ts

  pub numbers-nth : (h : H) (ρ : Substitution H) (n : ℕ) (es : Forest H) → ((i : ℕ) → ρ (n + i) ≡ nth h i es) → Numbers ρ n es
  numbers-nth h ρ n empty e = tt
  numbers-nth h ρ n (grow t es) e = (ap ρ (omega arith) ∙ e 0, numbers-nth h ρ (suc n) es (λ i. ap ρ (omega arith) ∙ e (suc i)))

  -- the readings of variables, filled with the open parts, are what a substitution gives
  pub readings-agree : (f : H) (σ ρ : Substitution H) (ps : Forest (PatternCell H)) (ts : Forest H) (n : ℕ) (others : Forest H) → FitAll in_class ps ts → Agrees in_class σ (all_bindings in_class ps ts) → Numbers ρ n (open_parts (tests ps) ts others) →
      AllByRecursion (λ b. apply ρ b.1 ≡ σ b.0) (readings ps (skeleton f (tests ps) ts) n) × Numbers ρ (n + count_plain ps) others
  readings-agree f σ ρ empty empty n others x a o = (tt, subst (λ k. Numbers ρ k others) (omega arith) o)
  readings-agree f σ ρ empty (grow t ts) n others x a o = absurd x
  readings-agree f σ ρ (grow p ps) empty n others x a o = absurd x
  readings-agree f σ ρ (grow (node (fixed g) qs) ps) (grow (node h us) ts) n others x a o =
      let one = readings-agree f σ ρ qs us n (open_parts (tests ps) ts others) x.0.1 (agrees_front in_class σ (all_bindings in_class qs us) (all_bindings in_class ps ts) a) o in
      let two = readings-agree f σ ρ ps ts (n + count_plain qs) others x.1 (agrees_back in_class σ (all_bindings in_class qs us) (all_bindings in_class ps ts) a) one.1 in (
        all_both (λ b. apply ρ b.1 ≡ σ b.0) (readings qs (skeleton f (tests qs) us) n) (readings ps (skeleton f (tests ps) ts) (n + count_plain qs)) one.0 two.0,
        subst (λ k. Numbers ρ k others) (omega arith) two.1,
      )
  readings-agree f σ ρ (grow (node (variable y) qs) ps) (grow t ts) n others x a o =
      let rest = readings-agree f σ ρ ps ts (suc n) others x.1 a.1 o.1 in
      ((o.0 ∙ sym a.0, rest.0), subst (λ k. Numbers ρ k others) (omega arith) rest.1)
  readings-agree f σ ρ (grow (node (restricted y class) qs) ps) (grow (node h empty) ts) n others x a o =
      let rest = readings-agree f σ ρ ps ts n others x.1 a.1 o in
      ((sym a.0, rest.0), rest.1)
  readings-agree f σ ρ (grow (node (restricted y class) qs) ps) (grow (node h (grow u us)) ts) n others x a o = absurd x.0
