-- Instances: a tree is one of a linear pattern exactly where the pattern fits it, cell by cell.
use Rattle.std.proofs.Common.{◌≡◌, ℕ, suc, false, cond, eq-eqb, List, [], ◌∷◌, ◌++◌, map, refl, sym, ◌∙◌, ap, subst, arith}
use Rattle.std.specs.Prelude.{nat_eq}
use Rattle.std.specs.List.{AllByRecursion, IsDistinct}
use Rattle.std.proofs.lemmas.List.{map-append}
use Rattle.eq_base.specs.Tree.{Tree, Forest, node, empty, grow, count}
use Rattle.eq_base.specs.Storing.{join}
use Rattle.eq_base.specs.Pattern.{PatternCell, fixed, variable, restricted, variables, all_variables, restrictions, all_restrictions, IsLinear, Classes, Substitution, apply, apply_all, IsConstantOf, Respects, IsInstanceOf}
use Rattle.eq_base.proofs.Lists.{all_front, all_back, all_both}

module _ {H : Type 0} (in_class : Classes H) where
  -- the pattern fits the tree: its heads stand there, and constants of its classes
  abbrev mutual
    pub Fits : Tree (PatternCell H) → Tree H → Type 0
    Fits (node (fixed g) ps) (node h ts) = (g ≡ h) × FitAll ps ts
    Fits (node (variable x) ps) t = Unit {0}
    Fits (node (restricted x class) ps) t = IsConstantOf in_class class t

    pub FitAll : Forest (PatternCell H) → Forest H → Type 0
    FitAll empty empty = Unit {0}
    FitAll empty (grow t ts) = ⊥
    FitAll (grow p ps) empty = ⊥
    FitAll (grow p ps) (grow t ts) = Fits p t × FitAll ps ts

  -- the patterns fit the first of the trees
  abbrev pub FitFront : Forest (PatternCell H) → Forest H → Type 0
  FitFront empty ts = Unit {0}
  FitFront (grow p ps) empty = ⊥
  FitFront (grow p ps) (grow t ts) = Fits p t × FitFront ps ts

  pub FitAll-count : (ps : Forest (PatternCell H)) (ts : Forest H) → FitAll ps ts → count ps ≡ count ts
  FitAll-count empty empty h = refl
  FitAll-count empty (grow t ts) h = absurd h
  FitAll-count (grow p ps) empty h = absurd h
  FitAll-count (grow p ps) (grow t ts) h = ap suc (FitAll-count ps ts h.1)

  pub FitFront-join : (ps qs : Forest (PatternCell H)) (ts us : Forest H) → FitAll ps ts → FitFront qs us → FitFront (join ps qs) (join ts us)
  FitFront-join empty qs empty us h k = k
  FitFront-join empty qs (grow t ts) us h k = absurd h
  FitFront-join (grow p ps) qs empty us h k = absurd h
  FitFront-join (grow p ps) qs (grow t ts) us h k = (h.0, FitFront-join ps qs ts us h.1 k)

  pub FitFront-split : (ps qs : Forest (PatternCell H)) (ts us : Forest H) → count ps ≡ count ts → FitFront (join ps qs) (join ts us) → FitAll ps ts × FitFront qs us
  FitFront-split empty qs empty us e h = (tt, h)
  FitFront-split empty qs (grow t ts) us e h = absurd (omega arith)
  FitFront-split (grow p ps) qs empty us e h = absurd (omega arith)
  FitFront-split (grow p ps) qs (grow t ts) us e h =
      let rest = FitFront-split ps qs ts us (omega arith) h.1 in
      ((h.0, rest.0), rest.1)

  -- ---- from an instance

  -- the tree of the restricted variable is a constant of its class
  abbrev RespectsOne : Substitution H → ℕ × ℕ → Type 0
  RespectsOne σ r = IsConstantOf in_class r.1 (σ r.0)

  mutual
    fits-apply : (σ : Substitution H) (p : Tree (PatternCell H)) → Respects in_class σ p → Fits p (apply σ p)
    fits-apply σ (node (fixed g) ps) r = (refl, fit_all-apply σ ps r)
    fits-apply σ (node (variable x) ps) r = tt
    fits-apply σ (node (restricted x class) ps) r = r.0

    fit_all-apply : (σ : Substitution H) (ps : Forest (PatternCell H)) → AllByRecursion (λ r. IsConstantOf in_class r.1 (σ r.0)) (all_restrictions ps) → FitAll ps (apply_all σ ps)
    fit_all-apply σ empty r = tt
    fit_all-apply σ (grow p ps) r =
        (fits-apply σ p (all_front (RespectsOne σ) (restrictions p) (all_restrictions ps) r), fit_all-apply σ ps (all_back (RespectsOne σ) (restrictions p) (all_restrictions ps) r))

  pub fits_from_instance : (p : Tree (PatternCell H)) (t : Tree H) → IsInstanceOf in_class p t → Fits p t
  fits_from_instance p t i = subst (Fits p) i.applied (fits-apply i.substitution p i.respects)

  -- ---- to an instance

  -- what the variables of a fitting pattern stand for
  abbrev mutual
    pub bindings : Tree (PatternCell H) → Tree H → List (ℕ × Tree H)
    bindings (node (fixed g) ps) (node h ts) = all_bindings ps ts
    bindings (node (variable x) ps) t = (x, t) ∷ []
    bindings (node (restricted x class) ps) t = (x, t) ∷ []

    pub all_bindings : Forest (PatternCell H) → Forest H → List (ℕ × Tree H)
    all_bindings empty ts = []
    all_bindings (grow p ps) empty = []
    all_bindings (grow p ps) (grow t ts) = bindings p t ++ all_bindings ps ts

  -- the substitution has these bindings
  abbrev pub Agrees : Substitution H → List (ℕ × Tree H) → Type 0
  Agrees σ bs = AllByRecursion (λ b. σ b.0 ≡ b.1) bs

  pub agrees_front : (σ : Substitution H) (xs ys : List (ℕ × Tree H)) → Agrees σ (xs ++ ys) → Agrees σ xs
  agrees_front σ [] ys h = tt
  agrees_front σ (x ∷ xs) ys h = (h.0, agrees_front σ xs ys h.1)

  pub agrees_back : (σ : Substitution H) (xs ys : List (ℕ × Tree H)) → Agrees σ (xs ++ ys) → Agrees σ ys
  agrees_back σ [] ys h = h
  agrees_back σ (x ∷ xs) ys h = agrees_back σ xs ys h.1

  mutual
    pub apply-bindings : (σ : Substitution H) (p : Tree (PatternCell H)) (t : Tree H) → Fits p t → Agrees σ (bindings p t) → apply σ p ≡ t
    apply-bindings σ (node (fixed g) ps) (node h ts) f a = rw (f.0, apply_all-bindings σ ps ts f.1 a) refl
    apply-bindings σ (node (variable x) ps) t f a = a.0
    apply-bindings σ (node (restricted x class) ps) t f a = a.0

    pub apply_all-bindings : (σ : Substitution H) (ps : Forest (PatternCell H)) (ts : Forest H) → FitAll ps ts → Agrees σ (all_bindings ps ts) → apply_all σ ps ≡ ts
    apply_all-bindings σ empty empty f a = refl
    apply_all-bindings σ empty (grow t ts) f a = absurd f
    apply_all-bindings σ (grow p ps) empty f a = absurd f
    apply_all-bindings σ (grow p ps) (grow t ts) f a =
        rw (apply-bindings σ p t f.0 (agrees_front σ (bindings p t) (all_bindings ps ts) a), apply_all-bindings σ ps ts f.1 (agrees_back σ (bindings p t) (all_bindings ps ts) a)) refl

  mutual
    pub respects-bindings : (σ : Substitution H) (p : Tree (PatternCell H)) (t : Tree H) → Fits p t → Agrees σ (bindings p t) → Respects in_class σ p
    respects-bindings σ (node (fixed g) ps) (node h ts) f a = all_respects-bindings σ ps ts f.1 a
    respects-bindings σ (node (variable x) ps) t f a = tt
    respects-bindings σ (node (restricted x class) ps) t f a = (rw a.0 f, tt)

    pub all_respects-bindings : (σ : Substitution H) (ps : Forest (PatternCell H)) (ts : Forest H) → FitAll ps ts → Agrees σ (all_bindings ps ts) → AllByRecursion (λ r. IsConstantOf in_class r.1 (σ r.0)) (all_restrictions ps)
    all_respects-bindings σ empty ts f a = tt
    all_respects-bindings σ (grow p ps) empty f a = absurd f
    all_respects-bindings σ (grow p ps) (grow t ts) f a =
        all_both (RespectsOne σ) (restrictions p) (all_restrictions ps)
        (respects-bindings σ p t f.0 (agrees_front σ (bindings p t) (all_bindings ps ts) a))
        (all_respects-bindings σ ps ts f.1 (agrees_back σ (bindings p t) (all_bindings ps ts) a))

  mutual
    pub keys-bindings : (p : Tree (PatternCell H)) (t : Tree H) → Fits p t → map (λ b. b.0) (bindings p t) ≡ variables p
    keys-bindings (node (fixed g) ps) (node h ts) f = all_keys-bindings ps ts f.1
    keys-bindings (node (variable x) ps) t f = refl
    keys-bindings (node (restricted x class) ps) t f = refl

    pub all_keys-bindings : (ps : Forest (PatternCell H)) (ts : Forest H) → FitAll ps ts → map (λ b. b.0) (all_bindings ps ts) ≡ all_variables ps
    all_keys-bindings empty ts f = refl
    all_keys-bindings (grow p ps) empty f = absurd f
    all_keys-bindings (grow p ps) (grow t ts) f =
        map-append (λ b. b.0) (bindings p t) (all_bindings ps ts) ∙ rw (keys-bindings p t f.0, all_keys-bindings ps ts f.1) refl

  -- the tree that a list of bindings gives a variable
  abbrev pub lookup : List (ℕ × Tree H) → Tree H → Substitution H
  lookup [] default x = default
  lookup (b ∷ bs) default x = cond (nat_eq b.0 x) b.1 (lookup bs default x)

  agrees-later : (σ : Substitution H) (k : ℕ) (v : Tree H) (bs : List (ℕ × Tree H)) → AllByRecursion (λ y. nat_eq k y ≡ false) (map (λ b. b.0) bs) → Agrees σ bs → Agrees (λ x. cond (nat_eq k x) v (σ x)) bs
  agrees-later σ k v [] apart a = tt
  agrees-later σ k v (b ∷ bs) apart a = (rw apart.0 a.0, agrees-later σ k v bs apart.1 a.1)

  pub agrees-lookup : (bs : List (ℕ × Tree H)) (default : Tree H) → IsDistinct nat_eq (map (λ b. b.0) bs) → Agrees (lookup bs default) bs
  unfolding IsDistinct
  agrees-lookup [] default d = tt
  agrees-lookup (b ∷ bs) default d =
      (rw (eq-eqb b.0 b.0 refl) refl, agrees-later (lookup bs default) b.0 b.1 bs d.0 (agrees-lookup bs default d.1))

  pub instance_from_fits : (p : Tree (PatternCell H)) (t : Tree H) → IsLinear p → Fits p t → IsInstanceOf in_class p t
  instance_from_fits p t linear f =
      let σ : Substitution H = lookup (bindings p t) t in
      let a = agrees-lookup (bindings p t) t (subst (IsDistinct nat_eq) (sym (keys-bindings p t f)) linear) in
      record { substitution = σ; respects = respects-bindings σ p t f a; applied = apply-bindings σ p t f a }
