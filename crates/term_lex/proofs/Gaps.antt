-- Blanks and comments, byte by byte.
use Rattle.std.proofs.Common.{◌≡◌, ◌≢◌, ℕ, ◌+◌, ◌<◌, ◌≤◌, true, false, List, length, arith, Option, Some, inl, inr, refl, sym, ◌∙◌, ap, subst, slice_get, ◌==◌}
use Rattle.std.specs.Prelude.{Bool, not}
use Rattle.std.proofs.lemmas.Bool.{cases_order, eqb-true, eqb-false}
use Rattle.std.proofs.lemmas.Option.{slice_get_within}
use Rattle.term_lex.specs.Bytes.{is_blank}
use Rattle.term_lex.specs.Gaps.{IsSkipped, IsGap}

-- one byte is not another
other_byte : (o : Option ℕ) (b c : ℕ) → o ≡ Some b → (b ≡ c → ⊥) → o ≢ Some c
other_byte o b c is other same = let e : Some b ≡ Some c = sym is ∙ same in other cc

module _ (bytes : List ℕ) where
  -- each byte before the place is blank or in a comment
  abbrev pub AllSkipped : ℕ → Type 0
  AllSkipped len = (place : ℕ) → place < len → IsSkipped bytes place

  -- a comment has begun before the place, and not ended
  pub record IsOpen (len : ℕ) : Type 0 where
    pub sign : ℕ
    pub found : slice_get bytes sign ≡ Some 37
    pub before : sign < len
    pub same_line : (between : ℕ) → sign ≤ between → between < len → slice_get bytes between ≢ Some 10

  -- each comment that has begun before the place has ended before it
  abbrev pub IsClosed : ℕ → Type 0
  IsClosed len = (sign : ℕ) → sign < len → slice_get bytes sign ≡ Some 37 → (between : ℕ) × (sign ≤ between) × (between < len) × (slice_get bytes between ≡ Some 10)

  -- what holds before the place and at it
  before_next : (P : ℕ → Type 0) (len : ℕ) → ((place : ℕ) → place < len → P place) → P len → (place : ℕ) → place < len + 1 → P place
  before_next P len before here place lt = elim (cases_order place len) [
    | inl same ↦ subst P (sym same) here
    | inr (inl earlier) ↦ before place earlier
    | inr (inr later) ↦ absurd (omega (arith, lt, later))
  ]

  pub skipped_next : (len : ℕ) → AllSkipped len → IsSkipped bytes len → AllSkipped (len + 1)
  skipped_next len before here = before_next (IsSkipped bytes) len before here

  pub open_begins : (len : ℕ) → slice_get bytes len ≡ Some 37 → IsOpen (len + 1)
  open_begins len found = record {
    sign = len;
    found = found;
    before = omega arith;
    same_line = λ between from to. let same : between ≡ len = omega (arith, from, to) in subst (λ n. slice_get bytes n ≢ Some 10) (sym same) (other_byte (slice_get bytes len) 37 10 found (λ e. absurd (omega (arith, e))));
  }

  pub open_goes_on : (len : ℕ) → IsOpen len → slice_get bytes len ≢ Some 10 → IsOpen (len + 1)
  open_goes_on len o other = record {
    sign = o.sign;
    found = o.found;
    before = omega (arith, o.before);
    same_line = λ between from to. before_next (λ n. o.sign ≤ n → slice_get bytes n ≢ Some 10) len (λ n lt le. o.same_line n le lt) (λ _. other) between to from;
  }

  -- a byte behind an open comment is in it, unless that is a newline
  pub in_comment : (len : ℕ) → IsOpen len → slice_get bytes len ≢ Some 10 → IsSkipped bytes len
  unfolding open_goes_on
  in_comment len o other = inr (record {
    sign = o.sign;
    found = o.found;
    before = omega (arith, o.before);
    same_line = λ between from to. (open_goes_on len o other).same_line between from (omega (arith, to));
  })

  pub begins_comment : (len : ℕ) → slice_get bytes len ≡ Some 37 → IsSkipped bytes len
  unfolding open_begins
  begins_comment len found = let o = open_begins len found in inr (record {
    sign = len;
    found = found;
    before = omega arith;
    same_line = λ between from to. o.same_line between from (omega (arith, to));
  })

  pub closed_by_newline : (len : ℕ) → slice_get bytes len ≡ Some 10 → IsClosed (len + 1)
  closed_by_newline len found sign lt is = (len, omega (arith, lt), omega arith, found)

  pub closed_goes_on : (len : ℕ) → IsClosed len → slice_get bytes len ≢ Some 37 → IsClosed (len + 1)
  closed_goes_on len closed other = before_next (λ sign. slice_get bytes sign ≡ Some 37 → (between : ℕ) × (sign ≤ between) × (between < len + 1) × (slice_get bytes between ≡ Some 10)) len
      (λ sign lt is. let (between, from, to, newline) = closed sign lt is in (between, from, omega (arith, to), newline)) (λ is. absurd (other is))

  -- what a reader knows behind so many bytes, all skipped: whether a comment is open
  pub record Passed (len : ℕ) (inside : Bool) : Type 0 where
    pub skipped : AllSkipped len
    pub open_comment : inside ≡ true → IsOpen len
    pub no_comment : inside ≡ false → IsClosed len

  pub none_passed : Passed 0 false
  none_passed = record { skipped = λ place lt. absurd (omega (arith, lt)); open_comment = λ e. cc; no_comment = λ _ sign lt. absurd (omega (arith, lt)) }

  newline_is_blank : (b : ℕ) → b ≡ 10 → is_blank b ≡ true
  newline_is_blank b e = subst (λ n. is_blank n ≡ true) (sym e) refl

  -- one more byte of a comment
  pub comment_passed : (len b : ℕ) → slice_get bytes len ≡ Some b → Passed len true → Passed (len + 1) (not (b == 10))
  comment_passed len b found p = go (b == 10) refl
    where
      go : (newline : Bool) → (b == 10) ≡ newline → Passed (len + 1) (not newline)
      go true e =
          let is = eqb-true b 10 e in
          record {
            skipped = skipped_next len p.skipped (inl (b, found, newline_is_blank b is));
            open_comment = λ no. cc;
            no_comment = λ _. closed_by_newline len (found ∙ ap (λ n. Some n) is);
          }
      go false e =
          let other = other_byte (slice_get bytes len) b 10 found (eqb-false b 10 e) in
          record {
            skipped = skipped_next len p.skipped (in_comment len (p.open_comment refl) other);
            open_comment = λ _. open_goes_on len (p.open_comment refl) other;
            no_comment = λ no. cc;
          }

  -- a comment begins
  pub sign_passed : (len : ℕ) → slice_get bytes len ≡ Some 37 → Passed len false → Passed (len + 1) true
  sign_passed len found p = record {
    skipped = skipped_next len p.skipped (begins_comment len found);
    open_comment = λ _. open_begins len found;
    no_comment = λ no. cc;
  }

  -- one more blank
  pub blank_passed : (len b : ℕ) → slice_get bytes len ≡ Some b → (b ≡ 37 → ⊥) → is_blank b ≡ true → Passed len false → Passed (len + 1) false
  blank_passed len b found other blank p = record {
    skipped = skipped_next len p.skipped (inl (b, found, blank));
    open_comment = λ no. cc;
    no_comment = λ _. closed_goes_on len (p.no_comment refl) (other_byte (slice_get bytes len) b 37 found other);
  }

  -- a byte that is neither blank nor `%`, with no comment open, is not skipped
  pub not_skipped : (len b : ℕ) → slice_get bytes len ≡ Some b → is_blank b ≡ false → (b ≡ 37 → ⊥) → IsClosed len → IsSkipped bytes len → ⊥
  not_skipped len b found no_blank other closed (inl (c, is, blank)) = let e : Some b ≡ Some c = sym found ∙ is in cc
  not_skipped len b found no_blank other closed (inr c) = elim (cases_order c.sign len) [
    | inl same ↦ other_byte (slice_get bytes len) b 37 found other (subst (λ n. slice_get bytes n ≡ Some 37) same c.found)
    | inr (inl earlier) ↦ let (between, from, to, newline) = closed c.sign earlier c.found in c.same_line between from (omega (arith, to)) newline
    | inr (inr later) ↦ absurd (omega (arith, later, c.before))
  ]

  -- the gap is what has been passed, where such a byte follows
  pub gap_before : (len b : ℕ) → slice_get bytes len ≡ Some b → is_blank b ≡ false → (b ≡ 37 → ⊥) → Passed len false → IsGap bytes len
  gap_before len b found no_blank other p = record {
    within = omega (arith, slice_get_within bytes len b found);
    skipped = p.skipped;
    ends = λ _. not_skipped len b found no_blank other (p.no_comment refl);
  }

  -- the gap is all there is
  pub gap_whole : (inside : Bool) → Passed (length bytes) inside → IsGap bytes (length bytes)
  gap_whole inside p = record { within = omega arith; skipped = p.skipped; ends = λ lt. absurd (omega (arith, lt)) }

  -- a gap has one length
  shorter : (m n : ℕ) → IsGap bytes m → IsGap bytes n → m < n → ⊥
  shorter m n p q lt = p.ends (omega (arith, lt, q.within)) (q.skipped m lt)

  pub one_gap : (m n : ℕ) → IsGap bytes m → IsGap bytes n → m ≡ n
  one_gap m n p q = elim (cases_order m n) [
    | inl same ↦ same
    | inr (inl lt) ↦ absurd (shorter m n p q lt)
    | inr (inr lt) ↦ absurd (shorter n m q p lt)
  ]
