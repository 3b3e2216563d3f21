-- Two patterns clash first, or differ first by a plain variable and a tested cell, or test the same positions and have a common instance.
use Rattle.std.proofs.Common.{◌≡◌, ℕ, zero, suc, ◌<◌, [], ◌∷◌, Bool, true, false, ◌⊎◌, inl, inr, Some, refl, sym, ◌∙◌, ap, subst, arith}
use Rattle.std.specs.Prelude.{IsTrue, ◌↔◌}
use Rattle.eq_base.specs.Tree.{Tree, Forest, node, empty, grow, head_of, count, Position, subtree_in, IsBefore}
use Rattle.eq_base.specs.Pattern.{PatternCell, fixed, variable, restricted, IsTested, Classes, Meets, Clash}
use Rattle.eq_base.specs.Testing.{IsPattern, ArePatterns}
use Rattle.regularity.specs.Arities.{HasArities, HaveArities}
use Rattle.orthogonal_laws.proofs.Comparing.{SameIn, tested_or_not, tested_first, below_in, in_below, after_in, in_after, nothing_in, not_below, args_patterns, ClashIn, clash_below_in, clash_after_in}

module _ {H : Type 0} where
  -- at the position one of the two has a plain variable, and the other is tested
  pub record MismatchIn (ps qs : Forest (PatternCell H)) (i : ℕ) (q : Position) : Type 0 where
    pub one : Tree (PatternCell H)
    pub other : Tree (PatternCell H)
    pub one_stands : subtree_in ps i q ≡ Some one
    pub other_stands : subtree_in qs i q ≡ Some other
    pub differ : (IsTested (head_of one) × (IsTested (head_of other) → ⊥)) ⊎ ((IsTested (head_of one) → ⊥) × IsTested (head_of other))

  abbrev m_below : {c d : PatternCell H} {us vs ps qs : Forest (PatternCell H)} {i : ℕ} {q : Position} → MismatchIn us vs i q → MismatchIn (grow (node c us) ps) (grow (node d vs) qs) 0 (i ∷ q)
  m_below m = record { one = m.one; other = m.other; one_stands = m.one_stands; other_stands = m.other_stands; differ = m.differ }

  abbrev below_m : {c d : PatternCell H} {us vs ps qs : Forest (PatternCell H)} {i : ℕ} {q : Position} → MismatchIn (grow (node c us) ps) (grow (node d vs) qs) 0 (i ∷ q) → MismatchIn us vs i q
  below_m m = record { one = m.one; other = m.other; one_stands = m.one_stands; other_stands = m.other_stands; differ = m.differ }

  abbrev m_after : {p r : Tree (PatternCell H)} {ps qs : Forest (PatternCell H)} {i : ℕ} {q : Position} → MismatchIn ps qs i q → MismatchIn (grow p ps) (grow r qs) (suc i) q
  m_after m = record { one = m.one; other = m.other; one_stands = m.one_stands; other_stands = m.other_stands; differ = m.differ }

  abbrev after_m : {p r : Tree (PatternCell H)} {ps qs : Forest (PatternCell H)} {i : ℕ} {q : Position} → MismatchIn (grow p ps) (grow r qs) (suc i) q → MismatchIn ps qs i q
  after_m m = record { one = m.one; other = m.other; one_stands = m.one_stands; other_stands = m.other_stands; differ = m.differ }

  root_mismatch : {c d : PatternCell H} {us vs ps qs : Forest (PatternCell H)} → MismatchIn (grow (node c us) ps) (grow (node d vs) qs) 0 [] → (IsTested c × (IsTested d → ⊥)) ⊎ ((IsTested c → ⊥) × IsTested d)
  root_mismatch {c} {d} {us} {vs} m =
      let e : m.one ≡ node c us = let z = m.one_stands in cc in
      let e' : m.other ≡ node d vs = let z = m.other_stands in cc in
      subst (λ y. (IsTested c × (IsTested (head_of y) → ⊥)) ⊎ ((IsTested c → ⊥) × IsTested (head_of y))) e' (subst (λ x. (IsTested (head_of x) × (IsTested (head_of m.other) → ⊥)) ⊎ ((IsTested (head_of x) → ⊥) × IsTested (head_of m.other))) e m.differ)

-- where both are tested or neither is, they do not differ
same_mismatch : {H : Type 0} (ps qs : Forest (PatternCell H)) (i : ℕ) (q : Position) → SameIn ps qs i q → MismatchIn ps qs i q → ⊥
same_mismatch ps qs i q s m =
    elim m.differ [
      | inl x ↦
          let t = s.0 (record { part = m.one; stands = m.one_stands; tested = x.0 }) in
          let e : t.part ≡ m.other = let y = t.stands in let y' = m.other_stands in cc in
          x.1 (subst (λ p. IsTested (head_of p)) e t.tested)
      | inr x ↦
          let t = s.1 (record { part = m.other; stands = m.other_stands; tested = x.1 }) in
          let e : t.part ≡ m.one = let y = t.stands in let y' = m.one_stands in cc in
          x.0 (subst (λ p. IsTested (head_of p)) e t.tested)
    ]

-- before the root of the first tree there is no position
nothing_before : {j : ℕ} {A B : Type 0} → (j < 0) ⊎ ((j ≡ 0) × ⊥) → A × B
nothing_before (inl l) = absurd (omega arith)
nothing_before (inr s) = absurd s.1

module _ {H : Type 0} (same : H → H → Bool) (decides : (g h : H) → IsTrue (same g h) ↔ (g ≡ h)) (in_class : Classes H) where
  -- what a comparison comes to
  pub data Outcome (ps qs : Forest (PatternCell H)) : Type 0 where
    clashes : (i : ℕ) (q : Position) → ClashIn same decides in_class ps qs i q → ((j : ℕ) (r : Position) → IsBefore (j ∷ r) (i ∷ q) → SameIn ps qs j r) → Outcome ps qs
    common : ((i : ℕ) (q : Position) → SameIn ps qs i q) → ((i : ℕ) (q : Position) → ClashIn same decides in_class ps qs i q → ⊥) → Outcome ps qs
    mismatches : (i : ℕ) (q : Position) → MismatchIn ps qs i q → ((j : ℕ) (r : Position) → IsBefore (j ∷ r) (i ∷ q) → (ClashIn same decides in_class ps qs j r → ⊥) × (MismatchIn ps qs j r → ⊥)) → Outcome ps qs

  -- positions that are the same, below the first trees and behind them
  same_both : {c d : PatternCell H} {us vs ps qs : Forest (PatternCell H)} → IsTested c → IsTested d → ((i : ℕ) (q : Position) → SameIn us vs i q) → (q : Position) → SameIn (grow (node c us) ps) (grow (node d vs) qs) 0 q
  same_both t t' s [] = (λ x. tested_first t', λ x. tested_first t)
  same_both t t' s (i ∷ q) = (λ x. below_in ((s i q).0 (in_below x)), λ x. below_in ((s i q).1 (in_below x)))

  same_plain : {c d : PatternCell H} {us vs ps qs : Forest (PatternCell H)} → IsPattern (node c us) → IsPattern (node d vs) → (IsTested c → ⊥) → (IsTested d → ⊥) → (q : Position) → SameIn (grow (node c us) ps) (grow (node d vs) qs) 0 q
  same_plain a b n n' q = (λ x. absurd (not_below same decides in_class a n x), λ x. absurd (not_below same decides in_class b n' x))

  -- no clash and no mismatch at a root or below
  plain_clash : {c d : PatternCell H} {us vs ps qs : Forest (PatternCell H)} (q : Position) → IsPattern (node c us) → (IsTested c → ⊥) → ClashIn same decides in_class (grow (node c us) ps) (grow (node d vs) qs) 0 q → ⊥
  plain_clash q a n x = not_below same decides in_class a n x.one

  plain_mismatch : {c d : PatternCell H} {us vs ps qs : Forest (PatternCell H)} (q : Position) → IsPattern (node c us) → IsPattern (node d vs) → (IsTested c → ⊥) → (IsTested d → ⊥) → MismatchIn (grow (node c us) ps) (grow (node d vs) qs) 0 q → ⊥
  plain_mismatch {c} {d} {us} {vs} q a b n n' m =
      elim m.differ [
        | inl x ↦ not_below same decides in_class {ps = empty} a n (record { part = m.one; stands = m.one_stands; tested = x.0 })
        | inr x ↦ not_below same decides in_class {ps = empty} b n' (record { part = m.other; stands = m.other_stands; tested = x.1 })
      ]

  later : (i j : ℕ) (q r : Position) → IsBefore (suc j ∷ r) (suc i ∷ q) → IsBefore (j ∷ r) (i ∷ q)
  later i j q r (inl less) = inl (omega arith)
  later i j q r (inr s) = inr (let z = s.0 in omega (arith, z), s.1)

  module _ (arity : H → ℕ) (constants : (class : ℕ) (h : H) → Meets in_class (restricted 0 class) h → arity h ≡ 0)
      (shared : (one other : ℕ) → Clash in_class (restricted 0 one) (restricted 0 other) ⊎ ((h : H) × Meets in_class (restricted 0 one) h × Meets in_class (restricted 0 other) h)) where
    yes_or_no : (b : Bool) → IsTrue b ⊎ (IsTrue b → ⊥)
    yes_or_no true = inl refl
    yes_or_no false = inr (λ e. absurd (cc))

    -- two tested cells clash, or a head meets both
    cells : (c d : PatternCell H) → IsTested c → IsTested d → Clash in_class c d ⊎ ((h : H) × Meets in_class c h × Meets in_class d h)
    cells (variable x) d t t' = absurd t
    cells (fixed g) (variable x) t t' = absurd t'
    cells (restricted x class) (variable y) t t' = absurd t'
    cells (fixed g) (fixed k) t t' =
        elim (yes_or_no (same g k)) [
          | inl e ↦ inr (g, refl, sym ((decides g k).0 e))
          | inr n ↦ inl (λ h e e'. n ((decides g k).1 (e ∙ sym e')))
        ]
    cells (fixed g) (restricted x class) t t' =
        elim (yes_or_no (in_class class g)) [
          | inl e ↦ inr (g, refl, e)
          | inr n ↦ inl (λ h e e'. n (subst (λ k. IsTrue (in_class class k)) (sym e) e'))
        ]
    cells (restricted x class) (fixed g) t t' =
        elim (yes_or_no (in_class class g)) [
          | inl e ↦ inr (g, e, refl)
          | inr n ↦ inl (λ h e e'. n (subst (λ k. IsTrue (in_class class k)) (sym e') e))
        ]
    cells (restricted x class) (restricted y other) t t' = shared class other

    -- a tested cell has the arguments of the heads that meet it
    tested_count : (c : PatternCell H) (us : Forest (PatternCell H)) (h : H) → IsPattern (node c us) → HasArities arity (node c us) → IsTested c → Meets in_class c h → count us ≡ arity h
    tested_count (fixed g) us h a b t m = b.0 ∙ ap arity m
    tested_count (variable x) us h a b t m = absurd t
    tested_count (restricted x class) us h a b t m = ap count a ∙ sym (constants class h m)

    args_arities : (c : PatternCell H) (us : Forest (PatternCell H)) → IsPattern (node c us) → HasArities arity (node c us) → HaveArities arity us
    args_arities (fixed g) us a b = b.1
    args_arities (variable x) us a b = subst (λ z. HaveArities arity z) (sym a) tt
    args_arities (restricted x class) us a b = subst (λ z. HaveArities arity z) (sym a) tt

    pub outcome : (ps qs : Forest (PatternCell H)) → count ps ≡ count qs → ArePatterns ps → ArePatterns qs → HaveArities arity ps → HaveArities arity qs → Outcome ps qs
    outcome empty empty n a b x y = common (λ i q. (λ t. t, λ t. t)) (λ i q z. nothing_in z.one)
    outcome empty (grow q qs) n a b x y = absurd (omega arith)
    outcome (grow p ps) empty n a b x y = absurd (omega arith)
    outcome (grow (node c us) ps) (grow (node d vs) qs) n a b x y =
        let rest = outcome ps qs (omega arith) a.1 b.1 x.1 y.1 in
        elim (tested_or_not c) [
          | inl t ↦ elim (tested_or_not d) [
            | inr n' ↦ mismatches 0 [] (record { one = _; other = _; one_stands = refl; other_stands = refl; differ = inl (t, n') }) (λ j r before. nothing_before before)
            | inl t' ↦ elim (cells c d t t') [
              | inl z ↦ clashes 0 [] (record { one = tested_first t; other = tested_first t'; clash = z }) (λ j r before. nothing_before before)
              | inr h ↦
                  let counts : count us ≡ count vs = tested_count c us h.0 a.0 x.0 t h.1 ∙ sym (tested_count d vs h.0 b.0 y.0 t' h.2) in
                  both t t' h.0 h.1 h.2 (outcome us vs counts (args_patterns same decides in_class c us a.0) (args_patterns same decides in_class d vs b.0) (args_arities c us a.0 x.0) (args_arities d vs b.0 y.0)) rest
            ]
          ]
          | inr n ↦ elim (tested_or_not d) [
            | inl t' ↦ mismatches 0 [] (record { one = _; other = _; one_stands = refl; other_stands = refl; differ = inr (n, t') }) (λ j r before. nothing_before before)
            | inr n' ↦ after (λ q. same_plain a.0 b.0 n n' q) (λ q z. plain_clash q a.0 n z) (λ q z. plain_mismatch q a.0 b.0 n n' z) rest
          ]
        ]
      where
        -- the first trees give nothing: the others decide
        after : ((q : Position) → SameIn (grow (node c us) ps) (grow (node d vs) qs) 0 q) → ((q : Position) → ClashIn same decides in_class (grow (node c us) ps) (grow (node d vs) qs) 0 q → ⊥) → ((q : Position) → MismatchIn (grow (node c us) ps) (grow (node d vs) qs) 0 q → ⊥) → Outcome ps qs → Outcome (grow (node c us) ps) (grow (node d vs) qs)
        after s k m (clashes i q z e) = clashes (suc i) q (record { one = after_in z.one; other = after_in z.other; clash = z.clash }) (λ j r before. before_clash j r before)
          where
            before_clash : (j : ℕ) (r : Position) → IsBefore (j ∷ r) (suc i ∷ q) → SameIn (grow (node c us) ps) (grow (node d vs) qs) j r
            before_clash zero r before = s r
            before_clash (suc j) r before = let w = e j r (later i j q r before) in (λ t. after_in (w.0 (in_after t)), λ t. after_in (w.1 (in_after t)))
        after s k m (common e f) = common (λ i q. all_same i q) (λ i q z. no_clash i q z)
          where
            all_same : (i : ℕ) (q : Position) → SameIn (grow (node c us) ps) (grow (node d vs) qs) i q
            all_same zero q = s q
            all_same (suc i) q = (λ t. after_in ((e i q).0 (in_after t)), λ t. after_in ((e i q).1 (in_after t)))

            no_clash : (i : ℕ) (q : Position) → ClashIn same decides in_class (grow (node c us) ps) (grow (node d vs) qs) i q → ⊥
            no_clash zero q z = k q z
            no_clash (suc i) q z = f i q (clash_after_in same decides in_class z)
        after s k m (mismatches i q z e) = mismatches (suc i) q (m_after z) (λ j r before. before_mismatch j r before)
          where
            before_mismatch : (j : ℕ) (r : Position) → IsBefore (j ∷ r) (suc i ∷ q) → (ClashIn same decides in_class (grow (node c us) ps) (grow (node d vs) qs) j r → ⊥) × (MismatchIn (grow (node c us) ps) (grow (node d vs) qs) j r → ⊥)
            before_mismatch zero r before = (k r, m r)
            before_mismatch (suc j) r before = let w = e j r (later i j q r before) in (λ z. w.0 (clash_after_in same decides in_class z), λ z. w.1 (after_m z))

        -- no clash at the roots
        root_clash : IsTested c → IsTested d → (h : H) → Meets in_class c h → Meets in_class d h → ClashIn same decides in_class (grow (node c us) ps) (grow (node d vs) qs) 0 [] → ⊥
        root_clash t t' h m m' z =
            let e : node c us ≡ z.one.part = let y = z.one.stands in cc in
            let e' : node d vs ≡ z.other.part = let y = z.other.stands in cc in
            z.clash h (subst (λ p. Meets in_class (head_of p) h) e m) (subst (λ p. Meets in_class (head_of p) h) e' m')

        both_mismatch : IsTested c → IsTested d → MismatchIn (grow (node c us) ps) (grow (node d vs) qs) 0 [] → ⊥
        both_mismatch t t' m = elim (root_mismatch m) [ inl z ↦ z.1 t' | inr z ↦ z.0 t ]

        both : IsTested c → IsTested d → (h : H) → Meets in_class c h → Meets in_class d h → Outcome us vs → Outcome ps qs → Outcome (grow (node c us) ps) (grow (node d vs) qs)
        both t t' h m m' (clashes i q z e) rest = clashes 0 (i ∷ q) (record { one = below_in z.one; other = below_in z.other; clash = z.clash }) (λ j r before. before_clash j r before)
          where
            before_clash : (j : ℕ) (r : Position) → IsBefore (j ∷ r) (0 ∷ i ∷ q) → SameIn (grow (node c us) ps) (grow (node d vs) qs) j r
            before_clash j r (inl less) = absurd (omega arith)
            before_clash zero [] (inr s) = (λ x. tested_first t', λ x. tested_first t)
            before_clash zero (k ∷ r) (inr s) = (λ x. below_in ((e k r s.1).0 (in_below x)), λ x. below_in ((e k r s.1).1 (in_below x)))
            before_clash (suc j) r (inr s) = absurd (let z = s.0 in omega (arith, z))
        both t t' h m m' (mismatches i q z e) rest = mismatches 0 (i ∷ q) (m_below z) (λ j r before. before_mismatch j r before)
          where
            before_mismatch : (j : ℕ) (r : Position) → IsBefore (j ∷ r) (0 ∷ i ∷ q) → (ClashIn same decides in_class (grow (node c us) ps) (grow (node d vs) qs) j r → ⊥) × (MismatchIn (grow (node c us) ps) (grow (node d vs) qs) j r → ⊥)
            before_mismatch j r (inl less) = absurd (omega arith)
            before_mismatch zero [] (inr s) = (root_clash t t' h m m', both_mismatch t t')
            before_mismatch zero (k ∷ r) (inr s) = (λ z. (e k r s.1).0 (clash_below_in same decides in_class z), λ z. (e k r s.1).1 (below_m z))
            before_mismatch (suc j) r (inr s) = absurd (let z = s.0 in omega (arith, z))
        both t t' h m m' (common e f) rest = after (same_both t t' e) (λ q z. no_clash q z) (λ q z. no_mismatch q z) rest
          where
            no_clash : (q : Position) → ClashIn same decides in_class (grow (node c us) ps) (grow (node d vs) qs) 0 q → ⊥
            no_clash [] z = root_clash t t' h m m' z
            no_clash (i ∷ q) z = f i q (clash_below_in same decides in_class z)

            no_mismatch : (q : Position) → MismatchIn (grow (node c us) ps) (grow (node d vs) qs) 0 q → ⊥
            no_mismatch [] z = both_mismatch t t' z
            no_mismatch (i ∷ q) z = same_mismatch us vs i q (e i q) (below_m z)
