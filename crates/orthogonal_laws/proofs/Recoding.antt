-- Where two rules lead to the same terms, their right sides read the same: trees that stand for nothing else are put for the plain variables.
use Rattle.std.proofs.Common.{◌≡◌, ℕ, zero, suc, ◌+◌, ◌-◌, ◌<◌, ◌≤◌, cond, refl, sym, ◌∙◌, ap, arith}
use Rattle.std.specs.Prelude.{nat_lt}
use Rattle.std.specs.List.{AllByRecursion}
use Rattle.std.proofs.lemmas.Bool.{lt-ltb, le-ltb}
use Rattle.eq_base.specs.Tree.{Tree, Forest, node, empty, grow, count, total_size, map_all_heads}
use Rattle.eq_base.specs.Pattern.{PatternCell, fixed, variable, restricted, all_variables, all_restrictions, Classes, Substitution, apply_all}
use Rattle.eq_base.proofs.Instances.{FitAll, all_bindings, Agrees, agrees_front, agrees_back}
use Rattle.eq_base.proofs.Lists.{all_both}
use Rattle.orthogonal_laws.proofs.Members.{In, in_first, in_next, in_left, in_right}
use Rattle.orthogonal_laws.proofs.Readings.{count_plain, readings, rename_all}

-- no node has more than n arguments
abbrev pub AreNarrow : {A : Type 0} → ℕ → Forest A → Type 0
AreNarrow n empty = Unit {0}
AreNarrow n (grow (node a us) ts) = (count us ≤ n) × AreNarrow n us × AreNarrow n ts

count-size : {A : Type 0} → (ts : Forest A) → count ts ≤ total_size ts
count-size empty = omega arith
count-size (grow (node a us) ts) = omega (arith, count-size ts)

pub narrow-size : {A : Type 0} → (ts : Forest A) (n : ℕ) → total_size ts ≤ n → AreNarrow n ts
narrow-size empty n le = tt
narrow-size (grow (node a us) ts) n le = (omega (arith, count-size us), narrow-size us n (omega arith), narrow-size ts n (omega arith))

module _ {H : Type 0} (n : ℕ) where
  -- a head over so many bare heads
  abbrev pub leaves : H → ℕ → Forest H
  leaves h zero = empty
  leaves h (suc k) = grow (node h empty) (leaves h k)

  count-leaves : (h : H) (k : ℕ) → count (leaves h k) ≡ k
  count-leaves h zero = refl
  count-leaves h (suc k) = ap suc (count-leaves h k)

  -- a tree that stands for the variable k: it has more than n arguments
  abbrev pub code : H → ℕ → Tree H
  code h k = node h (leaves h (suc (n + k)))

  -- what a head over k arguments stands for
  abbrev pub decoded : H → ℕ → Forest (PatternCell H) → Tree (PatternCell H)
  decoded h k ps = cond (nat_lt n k) (node (variable (k - suc n)) empty) (node (fixed h) ps)

  -- what trees stand for
  abbrev pub decode_all : Forest H → Forest (PatternCell H)
  decode_all empty = empty
  decode_all (grow (node h us) ts) = grow (decoded h (count us) (decode_all us)) (decode_all ts)

  abbrev pub decode : Tree H → Tree (PatternCell H)
  decode (node h us) = decoded h (count us) (decode_all us)

  pub decode_grow : (t : Tree H) (ts : Forest H) → decode_all (grow t ts) ≡ grow (decode t) (decode_all ts)
  decode_grow (node h us) ts = refl

  decoded-narrow : (h : H) (k : ℕ) (ps : Forest (PatternCell H)) → k ≤ n → decoded h k ps ≡ node (fixed h) ps
  decoded-narrow h k ps le = rw (le-ltb n k le) refl

  decode-code : (h : H) (k : ℕ) → decode (code h k) ≡ node (variable k) empty
  decode-code h k =
      let e : count (leaves h (suc (n + k))) ≡ suc (n + k) = count-leaves h (suc (n + k)) in
      let less : n < suc (n + k) = omega arith in
      let same : suc (n + k) - suc n ≡ k = omega arith in
      rw (e, lt-ltb n (suc (n + k)) less, same) refl

  count-apply : (τ : Substitution H) (ps : Forest (PatternCell H)) → count (apply_all τ ps) ≡ count ps
  count-apply τ empty = refl
  count-apply τ (grow p ps) = ap suc (count-apply τ ps)

  -- the value of narrow patterns stands for them, with what the values of the variables stand for
  pub decode-apply : (τ : Substitution H) (ps : Forest (PatternCell H)) → AreNarrow n ps → decode_all (apply_all τ ps) ≡ rename_all (λ x. decode (τ x)) ps
  decode-apply τ empty a = refl
  decode-apply τ (grow (node (fixed h) qs) ps) a =
      let le : count (apply_all τ qs) ≤ n = omega (arith, a.0, count-apply τ qs) in
      rw (decoded-narrow h (count (apply_all τ qs)) (decode_all (apply_all τ qs)) le, decode-apply τ qs a.1, decode-apply τ ps a.2) refl
  decode-apply τ (grow (node (variable x) qs) ps) a = decode_grow (τ x) (apply_all τ ps) ∙ ap (λ z. grow (decode (τ x)) z) (decode-apply τ ps a.2)
  decode-apply τ (grow (node (restricted x class) qs) ps) a = decode_grow (τ x) (apply_all τ ps) ∙ ap (λ z. grow (decode (τ x)) z) (decode-apply τ ps a.2)

  -- narrow trees stand for themselves
  pub decode-narrow : (ts : Forest H) → AreNarrow n ts → decode_all ts ≡ map_all_heads (λ h. fixed h) ts
  decode-narrow empty a = refl
  decode-narrow (grow (node h us) ts) a = rw (decoded-narrow h (count us) (decode_all us) a.0, decode-narrow us a.1, decode-narrow ts a.2) refl

  pub rename-same : (θ η : ℕ → Tree (PatternCell H)) (ps : Forest (PatternCell H)) → ((x : ℕ) → In (all_variables ps) x → θ x ≡ η x) → rename_all θ ps ≡ rename_all η ps
  rename-same θ η empty e = refl
  rename-same θ η (grow (node (fixed g) qs) ps) e = rw (rename-same θ η qs (λ x i. e x (in_left i (all_variables ps))), rename-same θ η ps (λ x i. e x (in_right (all_variables qs) i))) refl
  rename-same θ η (grow (node (variable x) qs) ps) e = rw (e x in_first, rename-same θ η ps (λ y i. e y (in_next i))) refl
  rename-same θ η (grow (node (restricted x class) qs) ps) e = rw (e x in_first, rename-same θ η ps (λ y i. e y (in_next i))) refl

  -- the trees that fit patterns, with codes in place of what stands at plain variables, by their order from k on
  abbrev pub recoded : H → Forest (PatternCell H) → Forest H → ℕ → Forest H
  recoded f (grow (node (fixed g) qs) ps) (grow (node h us) ts) k = grow (node h (recoded f qs us k)) (recoded f ps ts (k + count_plain qs))
  recoded f (grow (node (variable x) qs) ps) (grow t ts) k = grow (code f k) (recoded f ps ts (suc k))
  recoded f (grow (node (restricted x class) qs) ps) (grow t ts) k = grow t (recoded f ps ts k)
  recoded f ps ts k = empty

  module _ (in_class : Classes H) where
    pub recoded-fit : (f : H) (ps : Forest (PatternCell H)) (ts : Forest H) (k : ℕ) → FitAll in_class ps ts → FitAll in_class ps (recoded f ps ts k)
    recoded-fit f empty empty k x = tt
    recoded-fit f empty (grow t ts) k x = absurd x
    recoded-fit f (grow p ps) empty k x = absurd x
    recoded-fit f (grow (node (fixed g) qs) ps) (grow (node h us) ts) k x = ((x.0.0, recoded-fit f qs us k x.0.1), recoded-fit f ps ts (k + count_plain qs) x.1)
    recoded-fit f (grow (node (variable y) qs) ps) (grow t ts) k x = (tt, recoded-fit f ps ts (suc k) x.1)
    recoded-fit f (grow (node (restricted y class) qs) ps) (grow t ts) k x = (x.0, recoded-fit f ps ts k x.1)

    -- what the variables have there stands for their readings
    pub recoded-readings : (f : H) (τ : Substitution H) (ps : Forest (PatternCell H)) (ts : Forest H) (k : ℕ) → FitAll in_class ps ts → Agrees in_class τ (all_bindings in_class ps (recoded f ps ts k)) → AllByRecursion (λ b. decode (τ b.0) ≡ b.1) (readings ps ts k)
    recoded-readings f τ empty ts k x a = tt
    recoded-readings f τ (grow p ps) empty k x a = absurd x
    recoded-readings f τ (grow (node (fixed g) qs) ps) (grow (node h us) ts) k x a =
        all_both (λ b. decode (τ b.0) ≡ b.1) (readings qs us k) (readings ps ts (k + count_plain qs))
        (recoded-readings f τ qs us k x.0.1 (agrees_front in_class τ (all_bindings in_class qs (recoded f qs us k)) (all_bindings in_class ps (recoded f ps ts (k + count_plain qs))) a))
        (recoded-readings f τ ps ts (k + count_plain qs) x.1 (agrees_back in_class τ (all_bindings in_class qs (recoded f qs us k)) (all_bindings in_class ps (recoded f ps ts (k + count_plain qs))) a))
    recoded-readings f τ (grow (node (variable y) qs) ps) (grow t ts) k x a = (ap decode a.0 ∙ decode-code f k, recoded-readings f τ ps ts (suc k) x.1 a.1)
    recoded-readings f τ (grow (node (restricted y class) qs) ps) (grow (node h empty) ts) k x a = (ap decode a.0 ∙ decoded-narrow h 0 empty (omega arith), recoded-readings f τ ps ts k x.1 a.1)
    recoded-readings f τ (grow (node (restricted y class) qs) ps) (grow (node h (grow u us)) ts) k x a = absurd x.0

    -- restricted variables keep their constants
    pub recoded-restricted : (f : H) (σ τ : Substitution H) (ps : Forest (PatternCell H)) (ts : Forest H) (k : ℕ) → FitAll in_class ps ts → Agrees in_class σ (all_bindings in_class ps ts) → Agrees in_class τ (all_bindings in_class ps (recoded f ps ts k)) → AllByRecursion (λ r. σ r.0 ≡ τ r.0) (all_restrictions ps)
    recoded-restricted f σ τ empty ts k x a b = tt
    recoded-restricted f σ τ (grow p ps) empty k x a b = absurd x
    recoded-restricted f σ τ (grow (node (fixed g) qs) ps) (grow (node h us) ts) k x a b =
        all_both (λ r. σ r.0 ≡ τ r.0) (all_restrictions qs) (all_restrictions ps)
        (recoded-restricted f σ τ qs us k x.0.1 (agrees_front in_class σ (all_bindings in_class qs us) (all_bindings in_class ps ts) a) (agrees_front in_class τ (all_bindings in_class qs (recoded f qs us k)) (all_bindings in_class ps (recoded f ps ts (k + count_plain qs))) b))
        (recoded-restricted f σ τ ps ts (k + count_plain qs) x.1 (agrees_back in_class σ (all_bindings in_class qs us) (all_bindings in_class ps ts) a) (agrees_back in_class τ (all_bindings in_class qs (recoded f qs us k)) (all_bindings in_class ps (recoded f ps ts (k + count_plain qs))) b))
    recoded-restricted f σ τ (grow (node (variable y) qs) ps) (grow t ts) k x a b = recoded-restricted f σ τ ps ts (suc k) x.1 a.1 b.1
    recoded-restricted f σ τ (grow (node (restricted y class) qs) ps) (grow t ts) k x a b = (a.0 ∙ sym b.0, recoded-restricted f σ τ ps ts k x.1 a.1 b.1)
