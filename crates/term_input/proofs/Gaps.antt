-- Each text has a gap in front; a gap before a byte that is not skipped is one too where the text goes on.
use Rattle.std.proofs.Common.{◌≡◌, ℕ, zero, suc, ◌+◌, ◌<◌, ◌≤◌, Bool, true, false, List, [], ◌∷◌, ◌++◌, length, drop, arith, Some, inl, inr, ◌⊎◌, refl, sym, ◌∙◌, ap, subst, slice_get, ◌==◌, length-append, length-drop, ◌-◌}
use Rattle.std.specs.Prelude.{not}
use Rattle.std.proofs.lemmas.Bool.{eqb-true, eqb-false}
use Rattle.std.proofs.lemmas.List.{drop-append-le}
use Rattle.term_lex.specs.Bytes.{is_blank}
use Rattle.term_lex.specs.Gaps.{IsSkipped, IsGap}
use Rattle.term_lex.proofs.Gaps.{Passed, none_passed, comment_passed, sign_passed, blank_passed, gap_before, gap_whole, one_gap}
use Rattle.term_input.specs.Places.{IsNextByte, StandsNext}

-- ---- there is a gap

byte_at : (bytes : List ℕ) (n : ℕ) → n < length bytes → (b : ℕ) × (slice_get bytes n ≡ Some b)
byte_at [] n lt = absurd (omega (arith, lt))
byte_at (b ∷ bytes) zero lt = (b, refl)
byte_at (b ∷ bytes) (suc n) lt = byte_at bytes n (omega (arith, lt))

module _ (bytes : List ℕ) where
  -- one step behind what has been passed: the gap, or more that is passed
  passed_or_gap : (len b : ℕ) → slice_get bytes len ≡ Some b → Passed bytes len false → (sign : Bool) → (b == 37) ≡ sign → (blank : Bool) → is_blank b ≡ blank → IsGap bytes len ⊎ ((inside : Bool) × Passed bytes (len + 1) inside)
  passed_or_gap len b found p true is blank h = inr (true, sign_passed bytes len (found ∙ ap (λ n. Some n) (eqb-true b 37 is)) p)
  passed_or_gap len b found p false is true h = inr (false, blank_passed bytes len b found (eqb-false b 37 is) h p)
  passed_or_gap len b found p false is false h = inl (gap_before bytes len b found h (eqb-false b 37 is) p)

  search_gap : (fuel len : ℕ) (inside : Bool) → length bytes ≡ len + fuel → Passed bytes len inside → (n : ℕ) × IsGap bytes n
  search_gap zero len inside e p = let same : len ≡ length bytes = omega (arith, e) in (length bytes, gap_whole bytes inside (subst (λ n. Passed bytes n inside) same p))
  search_gap (suc fuel) len true e p =
      let (b, found) = byte_at bytes len (omega (arith, e)) in
      search_gap fuel (len + 1) (not (b == 10)) (omega (arith, e)) (comment_passed bytes len b found p)
  search_gap (suc fuel) len false e p =
      let (b, found) = byte_at bytes len (omega (arith, e)) in
      elim (passed_or_gap len b found p (b == 37) refl (is_blank b) refl) [
        | inl gap ↦ (len, gap)
        | inr (inside, more) ↦ search_gap fuel (len + 1) inside (omega (arith, e)) more
      ]

  pub some_gap : (n : ℕ) × IsGap bytes n
  some_gap = search_gap (length bytes) 0 false (omega arith) (none_passed bytes)

-- ---- a longer text

pub get_front : {A : Type 0} (xs ys : List A) (n : ℕ) → n < length xs → slice_get (xs ++ ys) n ≡ slice_get xs n
get_front [] ys n lt = absurd (omega (arith, lt))
get_front (x ∷ xs) ys zero lt = refl
get_front (x ∷ xs) ys (suc n) lt = get_front xs ys n (omega (arith, lt))

module _ (xs ys : List ℕ) where
  skipped_in : (n : ℕ) → n < length xs → IsSkipped xs n → IsSkipped (xs ++ ys) n
  skipped_in n lt (inl (b, found, blank)) = inl (b, get_front xs ys n lt ∙ found, blank)
  skipped_in n lt (inr c) = inr (record {
    sign = c.sign;
    found = get_front xs ys c.sign (omega (arith, c.before, lt)) ∙ c.found;
    before = c.before;
    same_line = λ k from to newline. c.same_line k from to (sym (get_front xs ys k (omega (arith, to, lt))) ∙ newline);
  })

  skipped_of : (n : ℕ) → n < length xs → IsSkipped (xs ++ ys) n → IsSkipped xs n
  skipped_of n lt (inl (b, found, blank)) = inl (b, sym (get_front xs ys n lt) ∙ found, blank)
  skipped_of n lt (inr c) = inr (record {
    sign = c.sign;
    found = sym (get_front xs ys c.sign (omega (arith, c.before, lt))) ∙ c.found;
    before = c.before;
    same_line = λ k from to newline. c.same_line k from to (get_front xs ys k (omega (arith, to, lt)) ∙ newline);
  })

  pub gap_front : (n : ℕ) → n < length xs → IsGap xs n → IsGap (xs ++ ys) n
  gap_front n lt g = record {
    within = omega (arith, lt, length-append xs ys);
    skipped = λ k before. skipped_in k (omega (arith, before, lt)) (g.skipped k before);
    ends = λ _ is. g.ends lt (skipped_of n lt is);
  }

-- ---- the next byte

pub one_byte : (text : List ℕ) (at b c : ℕ) → IsNextByte text at b → IsNextByte text at c → b ≡ c
one_byte text at b c p q = let same = one_gap (drop at text) p.gap q.gap p.skipped q.skipped in p.behind ∙ ap (λ n. at + n) same ∙ sym q.behind

-- the next byte of a text is that of a longer one, and stands behind the place
pub next_front : (text more : List ℕ) (at b : ℕ) → at ≤ length text → StandsNext text at b → StandsNext (text ++ more) at b
next_front text more at b le (next, lt) =
    let short : next.gap < length (drop at text) = omega (arith, lt, next.behind, length_of) in
    let gap = gap_front (drop at text) more next.gap short next.skipped in
    (record { gap = next.gap; skipped = subst (λ bytes. IsGap bytes next.gap) (sym (drop-append-le at text more le)) gap; behind = next.behind }, omega (arith, lt, length-append text more))
  where
    length_of : length (drop at text) ≡ length text - at
    length_of = length-drop at text
