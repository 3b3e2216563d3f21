-- Patterns that clash first by their positions clash by their tests; patterns that test the same positions are alike, or clash.
use Rattle.std.proofs.Common.{◌≡◌, ℕ, zero, suc, [], ◌∷◌, Bool, ◌⊎◌, inl, inr, Some, refl, sym, ◌∙◌, ap, subst, arith}
use Rattle.std.specs.Prelude.{IsTrue, ◌↔◌}
use Rattle.std.proofs.lemmas.Bool.{eqb-true}
use Rattle.eq_base.specs.Tree.{Tree, Forest, node, empty, grow, head_of, count, Position, subtree_in, IsBefore}
use Rattle.eq_base.specs.Pattern.{PatternCell, fixed, variable, restricted, IsTested, Classes, Meets}
use Rattle.eq_base.specs.Pattern as pattern
use Rattle.eq_base.specs.Testing.{IsPattern, ArePatterns}
use Rattle.orthogonal_laws.proofs.LeftSides.{Label, Patterns, Last, Open, Test, IsPart, part_here, part_below, part_after, part_skip, Alike, alike_last, alike_open, alike_test, Clash, clash_here, clash_below, clash_after, clash_skip}
use Rattle.orthogonal_laws.proofs.Translation.{test_of, tests, first_true, second_true}

module _ {H : Type 0} where
  pub alike_itself : (ps : Patterns H) → Alike ps ps
  alike_itself Last = alike_last
  alike_itself (Open ps) = alike_open (alike_itself ps)
  alike_itself (Test t ps qs) = alike_test (alike_itself ps) (alike_itself qs)

  pub alike_turned : {ps qs : Patterns H} → Alike ps qs → Alike qs ps
  alike_turned alike_last = alike_last
  alike_turned (alike_open a) = alike_open (alike_turned a)
  alike_turned (alike_test a b) = alike_test (alike_turned a) (alike_turned b)

  pub clash_turned : {ps qs : Patterns H} → Clash ps qs → Clash qs ps
  clash_turned (clash_here d) = clash_here (λ h e e'. d h e' e)
  clash_turned (clash_below c) = clash_below (clash_turned c)
  clash_turned (clash_after a c) = clash_after (alike_turned a) (clash_turned c)
  clash_turned (clash_skip c) = clash_skip (clash_turned c)

  -- a position of a list of patterns is tested
  pub record TestedIn (ps : Forest (PatternCell H)) (i : ℕ) (q : Position) : Type 0 where
    pub part : Tree (PatternCell H)
    pub stands : subtree_in ps i q ≡ Some part
    pub tested : IsTested (head_of part)

  abbrev pub SameIn : Forest (PatternCell H) → Forest (PatternCell H) → ℕ → Position → Type 0
  SameIn ps qs i q = TestedIn ps i q ↔ TestedIn qs i q

  pub tested_or_not : (c : PatternCell H) → IsTested c ⊎ (IsTested c → ⊥)
  tested_or_not (fixed h) = inl tt
  tested_or_not (variable x) = inr (λ t. t)
  tested_or_not (restricted x class) = inl tt

  abbrev pub tested_first : {c : PatternCell H} {us ps : Forest (PatternCell H)} → IsTested c → TestedIn (grow (node c us) ps) 0 []
  tested_first t = record { part = _; stands = refl; tested = t }

  pub first_tested : {c : PatternCell H} {us ps : Forest (PatternCell H)} → TestedIn (grow (node c us) ps) 0 [] → IsTested c
  first_tested {c} {us} t = let e : node c us ≡ t.part = let z = t.stands in cc in subst (λ p. IsTested (head_of p)) (sym e) t.tested

  abbrev pub below_in : {c : PatternCell H} {us ps : Forest (PatternCell H)} {i : ℕ} {q : Position} → TestedIn us i q → TestedIn (grow (node c us) ps) 0 (i ∷ q)
  below_in t = record { part = t.part; stands = t.stands; tested = t.tested }

  abbrev pub in_below : {c : PatternCell H} {us ps : Forest (PatternCell H)} {i : ℕ} {q : Position} → TestedIn (grow (node c us) ps) 0 (i ∷ q) → TestedIn us i q
  in_below t = record { part = t.part; stands = t.stands; tested = t.tested }

  abbrev pub after_in : {p : Tree (PatternCell H)} {ps : Forest (PatternCell H)} {i : ℕ} {q : Position} → TestedIn ps i q → TestedIn (grow p ps) (suc i) q
  after_in t = record { part = t.part; stands = t.stands; tested = t.tested }

  abbrev pub in_after : {p : Tree (PatternCell H)} {ps : Forest (PatternCell H)} {i : ℕ} {q : Position} → TestedIn (grow p ps) (suc i) q → TestedIn ps i q
  in_after t = record { part = t.part; stands = t.stands; tested = t.tested }

  pub nothing_in : {i : ℕ} {q : Position} → TestedIn empty i q → ⊥
  nothing_in t = let z = t.stands in absurd (cc)

module _ {H : Type 0} (same : H → H → Bool) (decides : (g h : H) → IsTrue (same g h) ↔ (g ≡ h)) (in_class : Classes H) where
  -- the tests of a tested pattern and of an untested one
  pub tested-tests : (c : PatternCell H) (us : Forest (PatternCell H)) → IsPattern (node c us) → IsTested c → (rest : Forest (PatternCell H)) → tests same in_class (grow (node c us) rest) ≡ Test (λ h. test_of same in_class c (count us) h) (tests same in_class us) (tests same in_class rest)
  tested-tests (fixed h) us a t rest = refl
  tested-tests (variable x) us a t rest = absurd t
  tested-tests (restricted x class) us a t rest = ap (λ z. Test (λ h. test_of same in_class (restricted x class) 0 h) (tests same in_class z) (tests same in_class rest)) (sym a)

  untested-tests : (c : PatternCell H) (us : Forest (PatternCell H)) → (IsTested c → ⊥) → (rest : Forest (PatternCell H)) → tests same in_class (grow (node c us) rest) ≡ Open (tests same in_class rest)
  untested-tests (fixed h) us t rest = absurd (t tt)
  untested-tests (variable x) us t rest = refl
  untested-tests (restricted x class) us t rest = absurd (t tt)

  pub args_patterns : (c : PatternCell H) (us : Forest (PatternCell H)) → IsPattern (node c us) → ArePatterns us
  args_patterns (fixed h) us a = a
  args_patterns (variable x) us a = subst (λ z. ArePatterns z) (sym a) tt
  args_patterns (restricted x class) us a = subst (λ z. ArePatterns z) (sym a) tt

  -- a tested cell wants as many arguments as it has
  label_count : (c : PatternCell H) (us : Forest (PatternCell H)) → IsPattern (node c us) → IsTested c → (h : Label H) → IsTrue (test_of same in_class c (count us) h) → h.1 ≡ count us
  label_count (fixed g) us a t h e = eqb-true _ _ (second_true _ _ e)
  label_count (variable x) us a t h e = absurd t
  label_count (restricted x class) us a t h e = eqb-true _ _ (second_true _ _ e) ∙ sym (ap count a)

  same_or_not : (m n : ℕ) → (m ≡ n) ⊎ (m ≡ n → ⊥)
  same_or_not m n = grind arith

  -- two tested cells have as many arguments, or no head passes both tests
  cells_meet : (c d : PatternCell H) (us vs : Forest (PatternCell H)) → IsPattern (node c us) → IsPattern (node d vs) → IsTested c → IsTested d → (count us ≡ count vs) ⊎ ((h : Label H) → IsTrue (test_of same in_class c (count us) h) → IsTrue (test_of same in_class d (count vs) h) → ⊥)
  cells_meet c d us vs a b t t' =
      elim (same_or_not (count us) (count vs)) [
        | inl e ↦ inl e
        | inr n ↦ inr (λ h e e'. n (sym (label_count c us a t h e) ∙ label_count d vs b t' h e'))
      ]

  -- patterns that test the same positions are alike, or clash
  pub compare : (ps qs : Forest (PatternCell H)) → count ps ≡ count qs → ArePatterns ps → ArePatterns qs → ((i : ℕ) (q : Position) → SameIn ps qs i q) → Alike (tests same in_class ps) (tests same in_class qs) ⊎ Clash (tests same in_class ps) (tests same in_class qs)
  compare empty empty e a b s = inl alike_last
  compare empty (grow q qs) e a b s = absurd (omega arith)
  compare (grow p ps) empty e a b s = absurd (omega arith)
  compare (grow (node c us) ps) (grow (node d vs) qs) e a b s =
      let rest = compare ps qs (omega arith) a.1 b.1 (λ i q. (λ t. in_after ((s (suc i) q).0 (after_in t)), λ t. in_after ((s (suc i) q).1 (after_in t)))) in
      elim (tested_or_not c) [
        | inr n ↦ elim (tested_or_not d) [
          | inl t' ↦ absurd (n (first_tested ((s 0 []).1 (tested_first t'))))
          | inr n' ↦ rw (untested-tests c us n ps, untested-tests d vs n' qs) (elim rest [ inl x ↦ inl (alike_open x) | inr x ↦ inr (clash_skip x) ])
        ]
        | inl t ↦ elim (tested_or_not d) [
          | inr n' ↦ absurd (n' (first_tested ((s 0 []).0 (tested_first t))))
          | inl t' ↦
              rw (tested-tests c us a.0 t ps, tested-tests d vs b.0 t' qs)
              (elim (cells_meet c d us vs a.0 b.0 t t') [
                | inr x ↦ inr (clash_here x)
                | inl n ↦ elim (compare us vs n (args_patterns c us a.0) (args_patterns d vs b.0) (λ i q. (λ t. in_below ((s 0 (i ∷ q)).0 (below_in t)), λ t. in_below ((s 0 (i ∷ q)).1 (below_in t))))) [
                  | inr x ↦ inr (clash_below x)
                  | inl x ↦ elim rest [ inl y ↦ inl (alike_test x y) | inr y ↦ inr (clash_after x y) ]
                ]
              ])
        ]
      ]

  -- both are tested at a position where no head meets both
  pub record ClashIn (ps qs : Forest (PatternCell H)) (i : ℕ) (q : Position) : Type 0 where
    pub one : TestedIn ps i q
    pub other : TestedIn qs i q
    pub clash : pattern.Clash in_class (head_of one.part) (head_of other.part)

  test_meets : (c : PatternCell H) (n : ℕ) (h : Label H) → IsTested c → IsTrue (test_of same in_class c n h) → Meets in_class c h.0
  test_meets (fixed g) n h t e = (decides g h.0).0 (first_true _ _ e)
  test_meets (variable x) n h t e = absurd t
  test_meets (restricted x class) n h t e = first_true _ _ e

  clash_tests : {c d : PatternCell H} {us vs ps qs : Forest (PatternCell H)} → ClashIn (grow (node c us) ps) (grow (node d vs) qs) 0 [] → (h : Label H) → IsTrue (test_of same in_class c (count us) h) → IsTrue (test_of same in_class d (count vs) h) → ⊥
  clash_tests {c} {d} {us} {vs} x h e e' =
      let one : node c us ≡ x.one.part = let z = x.one.stands in cc in
      let other : node d vs ≡ x.other.part = let z = x.other.stands in cc in
      x.clash h.0
      (subst (λ p. Meets in_class (head_of p) h.0) one (test_meets c (count us) h (first_tested x.one) e))
      (subst (λ p. Meets in_class (head_of p) h.0) other (test_meets d (count vs) h (first_tested x.other) e'))

  pub clash_below_in : {c d : PatternCell H} {us vs ps qs : Forest (PatternCell H)} {i : ℕ} {q : Position} → ClashIn (grow (node c us) ps) (grow (node d vs) qs) 0 (i ∷ q) → ClashIn us vs i q
  clash_below_in x = record { one = in_below x.one; other = in_below x.other; clash = x.clash }

  pub clash_after_in : {p r : Tree (PatternCell H)} {ps qs : Forest (PatternCell H)} {i : ℕ} {q : Position} → ClashIn (grow p ps) (grow r qs) (suc i) q → ClashIn ps qs i q
  clash_after_in x = record { one = in_after x.one; other = in_after x.other; clash = x.clash }

  -- a position below or after the first one comes after it, and is not tested below a variable
  pub not_below : {c : PatternCell H} {us ps : Forest (PatternCell H)} {q : Position} → IsPattern (node c us) → (IsTested c → ⊥) → TestedIn (grow (node c us) ps) 0 q → ⊥
  not_below {q = []} a n t = n (first_tested t)
  not_below {c = fixed g} {q = j ∷ q} a n t = n tt
  not_below {c = restricted x class} {q = j ∷ q} a n t = n tt
  not_below {c = variable x} {us = us} {q = j ∷ q} a n t = nothing_in (subst (λ z. TestedIn z j q) a (in_below t))

  -- patterns that clash, before any position that only one of them tests, clash by their tests
  pub clash_first : (ps qs : Forest (PatternCell H)) → ArePatterns ps → ArePatterns qs → (i : ℕ) (q : Position) → ClashIn ps qs i q → ((j : ℕ) (r : Position) → IsBefore (j ∷ r) (i ∷ q) → SameIn ps qs j r) → Clash (tests same in_class ps) (tests same in_class qs)
  clash_first empty qs a b i q x s = absurd (nothing_in x.one)
  clash_first (grow p ps) empty a b i q x s = absurd (nothing_in x.other)
  clash_first (grow (node c us) ps) (grow (node d vs) qs) a b zero q x s =
      elim (tested_or_not c) [
        | inr n ↦ absurd (not_below a.0 n x.one)
        | inl t ↦ elim (tested_or_not d) [
          | inr n ↦ absurd (not_below b.0 n x.other)
          | inl t' ↦
              rw (tested-tests c us a.0 t ps, tested-tests d vs b.0 t' qs)
              (at_first (λ j r y before. clash_first us vs (args_patterns c us a.0) (args_patterns d vs b.0) j r y before) q x s)
        ]
      ]
    where
      at_first : ((j : ℕ) (r : Position) → ClashIn us vs j r → ((k : ℕ) (l : Position) → IsBefore (k ∷ l) (j ∷ r) → SameIn us vs k l) → Clash (tests same in_class us) (tests same in_class vs)) →
          (q : Position) → ClashIn (grow (node c us) ps) (grow (node d vs) qs) 0 q → ((j : ℕ) (r : Position) → IsBefore (j ∷ r) (0 ∷ q) → SameIn (grow (node c us) ps) (grow (node d vs) qs) j r) →
          Clash (Test (λ h. test_of same in_class c (count us) h) (tests same in_class us) (tests same in_class ps)) (Test (λ h. test_of same in_class d (count vs) h) (tests same in_class vs) (tests same in_class qs))
      at_first below [] x s = clash_here (clash_tests x)
      at_first below (j ∷ q) x s = clash_below (below j q (clash_below_in x) (λ k r before. (λ t. in_below ((s 0 (k ∷ r) (inr (refl, before))).0 (below_in t)), λ t. in_below ((s 0 (k ∷ r) (inr (refl, before))).1 (below_in t)))))
  clash_first (grow (node c us) ps) (grow (node d vs) qs) a b (suc i) q x s =
      let rest = clash_first ps qs a.1 b.1 i q (clash_after_in x) (λ j r before. (λ t. in_after ((s (suc j) r (later j r before)).0 (after_in t)), λ t. in_after ((s (suc j) r (later j r before)).1 (after_in t)))) in
      elim (tested_or_not c) [
        | inr n ↦ elim (tested_or_not d) [
          | inl t' ↦ absurd (n (first_tested ((s 0 [] (inl (omega arith))).1 (tested_first t'))))
          | inr n' ↦ rw (untested-tests c us n ps, untested-tests d vs n' qs) (clash_skip rest)
        ]
        | inl t ↦ elim (tested_or_not d) [
          | inr n' ↦ absurd (n' (first_tested ((s 0 [] (inl (omega arith))).0 (tested_first t))))
          | inl t' ↦
              rw (tested-tests c us a.0 t ps, tested-tests d vs b.0 t' qs)
              (elim (cells_meet c d us vs a.0 b.0 t t') [
                | inr y ↦ clash_here y
                | inl n ↦ elim (compare us vs n (args_patterns c us a.0) (args_patterns d vs b.0) (λ j r. (λ t. in_below ((s 0 (j ∷ r) (inl (omega arith))).0 (below_in t)), λ t. in_below ((s 0 (j ∷ r) (inl (omega arith))).1 (below_in t))))) [
                  | inr y ↦ clash_below y
                  | inl y ↦ clash_after y rest
                ]
              ])
        ]
      ]
    where
      later : (j : ℕ) (r : Position) → IsBefore (j ∷ r) (i ∷ q) → IsBefore (suc j ∷ r) (suc i ∷ q)
      later j r (inl less) = inl (omega arith)
      later j r (inr same) = inr (ap suc same.0, same.1)

  -- what stands below a tested position of the tests is a tested part of the patterns
  pub record PartAt (ps : Forest (PatternCell H)) (test : Label H → Bool) (below : Patterns H) : Type 0 where
    pub i : ℕ
    pub at : Position
    pub tested : TestedIn ps i at
    pub is_pattern : IsPattern tested.part
    pub is : tests same in_class (grow tested.part empty) ≡ Test test below Last

  pub part_at : (ps : Forest (PatternCell H)) → ArePatterns ps → {test : Label H → Bool} {below : Patterns H} → IsPart test below (tests same in_class ps) → PartAt ps test below
  part_at empty a p = elim p [ ]
  part_at (grow (node (fixed g) us) ps) a part_here = record { i = 0; at = []; tested = tested_first tt; is_pattern = a.0; is = refl }
  part_at (grow (node (fixed g) us) ps) a (part_below p) =
      let w = part_at us a.0 p in record { i = 0; at = w.i ∷ w.at; tested = below_in w.tested; is_pattern = w.is_pattern; is = w.is }
  part_at (grow (node (fixed g) us) ps) a (part_after p) =
      let w = part_at ps a.1 p in record { i = suc w.i; at = w.at; tested = after_in w.tested; is_pattern = w.is_pattern; is = w.is }
  part_at (grow (node (variable x) us) ps) a (part_skip p) =
      let w = part_at ps a.1 p in record { i = suc w.i; at = w.at; tested = after_in w.tested; is_pattern = w.is_pattern; is = w.is }
  part_at (grow (node (restricted x class) us) ps) a part_here = record { i = 0; at = []; tested = tested_first tt; is_pattern = a.0; is = refl }
  part_at (grow (node (restricted x class) us) ps) a (part_below p) = elim p [ ]
  part_at (grow (node (restricted x class) us) ps) a (part_after p) =
      let w = part_at ps a.1 p in record { i = suc w.i; at = w.at; tested = after_in w.tested; is_pattern = w.is_pattern; is = w.is }
