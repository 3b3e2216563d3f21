-- Blanks and comments of the bytes that are taken, a piece at a time.
use Rattle.std.proofs.Common.{◌≡◌, ℕ, ◌+◌, ◌-◌, ◌<◌, ◌≤◌, Bool, true, false, List, [], ◌++◌, length, drop, take, arith, Option, inl, inr, refl, sym, ◌∙◌, ap, subst, length-drop, length-append, append-nil, append_assoc, drop-drop}
use Rattle.std.specs.Prelude.{nat_lt}
use Rattle.std.proofs.lemmas.List.{drop-append-le, length-take}
use borrow.Author.Tests.{ltb-true, ltb-false}
use Rattle.term_lex.specs.Gaps.{IsSkipped, IsGap}
use Rattle.term_lex.proofs.Gaps.{Passed, gap_whole, none_passed}
use Rattle.term_input.specs.Places.{NothingLeft, StandsNext}
use Rattle.term_input.specs.Streams.{Held, taken_count, MayTake, Takes, IsTaken}
use Rattle.term_input.proofs.Gaps.{get_front}
use Rattle.term_input.proofs.Inputs.{front_take}
use Rattle.term_input.proofs.Streams.{more_taken, given_up}
use Rattle.ei_program.specs.Reading.{readable, Goes, SkipsTo}
use Rattle.ei_program.proofs.Lengths.{le_both}
use Rattle.ei_program.proofs.Taken.{drop_take}
use Rattle.ei_program.proofs.Counting.{open_count, to_take}

-- the bytes that can be read behind a place
abbrev pub text_behind : (limit place : ℕ) → List ℕ → List ℕ
text_behind limit place taken = drop place (take limit taken)

-- all between the two places is skipped, and the last comment is open or not
abbrev pub AreSkipped : Bool → (old new : Held) → List ℕ → Type 0
AreSkipped inside old new taken = Passed (text_behind old.limit old.place taken) (new.place - old.place) inside

-- ---- more bytes

module _ (xs ys : List ℕ) where
  skipped_front : (n : ℕ) → n < length xs → IsSkipped xs n → IsSkipped (xs ++ ys) n
  skipped_front n lt (inl (b, found, blank)) = inl (b, get_front xs ys n lt ∙ found, blank)
  skipped_front n lt (inr c) = inr (record {
    sign = c.sign;
    found = get_front xs ys c.sign (omega (arith, c.before, lt)) ∙ c.found;
    before = c.before;
    same_line = λ k from to newline. c.same_line k from to (sym (get_front xs ys k (omega (arith, to, lt))) ∙ newline);
  })

  -- what is passed stays so where the text goes on
  pub passed_front : (len : ℕ) (inside : Bool) → len ≤ length xs → Passed xs len inside → Passed (xs ++ ys) len inside
  passed_front len inside le p = record {
    skipped = λ place lt. skipped_front place (omega (arith, lt, le)) (p.skipped place lt);
    open_comment = λ is.
        let o = p.open_comment is in
        record {
          sign = o.sign;
          found = get_front xs ys o.sign (omega (arith, o.before, le)) ∙ o.found;
          before = o.before;
          same_line = λ k from to newline. o.same_line k from to (sym (get_front xs ys k (omega (arith, to, le))) ∙ newline);
        };
    no_comment = λ is sign lt found.
        let (k, from, to, newline) = p.no_comment is sign lt (sym (get_front xs ys sign (omega (arith, lt, le))) ∙ found) in
        (k, from, to, get_front xs ys k (omega (arith, to, le)) ∙ newline);
  }

-- what is skipped of a front of the taken bytes is skipped of more
pub skipped_more : (inside : Bool) (limit place len : ℕ) (taken more : List ℕ) → place ≤ length (take limit taken) → len ≤ length (text_behind limit place taken) → Passed (text_behind limit place taken) len inside → Passed (text_behind limit place (taken ++ more)) len inside
skipped_more inside limit place len taken more le within p =
    let (others, longer) = front_take limit taken more in
    let parts : text_behind limit place (taken ++ more) ≡ text_behind limit place taken ++ others = ap (drop place) longer ∙ drop-append-le place (take limit taken) others le in
    subst (λ bs. Passed bs len inside) (sym parts) (passed_front (text_behind limit place taken) others len inside within p)

-- ---- the end of a gap

module _ (limit place : ℕ) (taken : List ℕ) (within : place ≤ length (take limit taken)) where
  length_behind : length (text_behind limit place taken) ≡ length (take limit taken) - place
  length_behind = length-drop place (take limit taken)

  -- something stands behind the gap
  pub stands_behind : (gap byte : ℕ) → IsGap (text_behind limit place taken) gap → gap < length (text_behind limit place taken) → byte ≡ place + gap → StandsNext (take limit taken) place byte
  stands_behind gap byte is lt e = (record { gap = gap; skipped = is; behind = e }, omega (arith, lt, e, length_behind, within))

  -- the gap is all that is left
  pub nothing_behind : (gap : ℕ) (inside : Bool) → Passed (text_behind limit place taken) gap inside → gap ≡ length (text_behind limit place taken) → NothingLeft (take limit taken) place
  nothing_behind gap inside p e =
      let all = gap_whole (text_behind limit place taken) inside (subst (λ n. Passed (text_behind limit place taken) n inside) e p) in
      record { gap = length (text_behind limit place taken); skipped = all; behind = omega (arith, length_behind, within) }

-- ---- the pieces of a gap

-- all between the two places is skipped, and the later one lies within what may be read
abbrev pub GapTo : Bool → (old new : Held) → List ℕ → Type 0
GapTo inside old new taken = AreSkipped inside old new taken × (new.place ≤ length (take old.limit taken))

-- what is held where the bytes before a place are given up
abbrev pub given : Held → ℕ → Held
given held place = record held { bytes = drop (place - held.place) held.bytes; place = place }

-- nothing is skipped yet
pub gap_begun : (a : Option (List ℕ)) (old : Held) → old.place ≤ old.limit → Goes a a old old (GapTo false old old)
gap_begun a old within before taken is =
    let same : taken ≡ taken ++ [] = sym (append-nil taken) in
    let none : 0 ≡ old.place - old.place = omega arith in
    let passed = subst (λ n. Passed (text_behind old.limit old.place (taken ++ [])) n false) none (none_passed (text_behind old.limit old.place (taken ++ []))) in
    let place : old.place ≤ length (take old.limit taken) = omega (arith, within, is.place, length-take old.limit taken) in
    ([], subst (λ bs. IsTaken before a bs old) same is, (passed, subst (λ bs. old.place ≤ length (take old.limit bs)) same place))

module _ (a b : Option (List ℕ)) (old mid : Held) (inside : Bool) (limit : mid.limit ≡ old.limit) (from : old.place ≤ mid.place) (gone : Goes a b old mid (GapTo inside old mid)) where
  readable_behind : (before : Option (List ℕ)) (taken : List ℕ) → IsTaken before b taken mid → drop (mid.place - old.place) (text_behind old.limit old.place taken) ≡ readable mid
  readable_behind before taken is =
      let parts : old.place + (mid.place - old.place) ≡ mid.place = omega (arith, from) in
      drop-drop (mid.place - old.place) old.place (take old.limit taken)
      ∙ ap (λ n. drop n (take old.limit taken)) parts
      ∙ ap (λ n. drop mid.place (take n taken)) (sym limit)
      ∙ drop_take mid.place mid.limit taken
      ∙ ap (take (mid.limit - mid.place)) (sym is.bytes)

  readable_length : (before : Option (List ℕ)) (taken : List ℕ) → IsTaken before b taken mid → length (readable mid) ≡ length (take old.limit taken) - mid.place
  readable_length before taken is =
      let behind = ap length (readable_behind before taken is) in
      omega (arith, behind, from, length-drop (mid.place - old.place) (text_behind old.limit old.place taken), length-drop old.place (take old.limit taken))

  module _ (bytes : List ℕ) (bytes_are : bytes ≡ readable mid) (n place : ℕ) (place_is : place ≡ mid.place + n) (within_bytes : n ≤ length bytes) where
    fits : n ≤ length (readable mid)
    fits = subst (λ bs. n ≤ length bs) bytes_are within_bytes

    behind_there : (before : Option (List ℕ)) (taken : List ℕ) → IsTaken before b taken mid → drop (mid.place - old.place) (text_behind old.limit old.place taken) ≡ bytes
    behind_there before taken is = readable_behind before taken is ∙ sym bytes_are

    -- bytes of the gap are given up
    gives_up : (before : Option (List ℕ)) (taken : List ℕ) → IsTaken before b taken mid → IsTaken before b taken (given mid place)
    gives_up before taken is = given_up before b taken mid place is (omega (arith, place_is)) (omega (arith, place_is, fits, length-take (mid.limit - mid.place) mid.bytes))

    given_within : place ≤ mid.place + length mid.bytes
    given_within = omega (arith, place_is, fits, length-take (mid.limit - mid.place) mid.bytes)

    further : mid.place - old.place + n ≡ place - old.place
    further = omega (arith, place_is, from)

    -- more of it is skipped
    pub gap_goes_on : (now : Bool) → ((text : List ℕ) (len : ℕ) → drop len text ≡ bytes → Passed text len inside → Passed text (len + n) now) → Goes a b old (given mid place) (GapTo now old (given mid place))
    gap_goes_on now passed before taken is =
        let (more, there, (p, le)) = gone before taken is in
        let all = taken ++ more in
        let behind = passed (text_behind old.limit old.place all) (mid.place - old.place) (behind_there before all there) p in
        (more, gives_up before all there, (subst (λ k. Passed (text_behind old.limit old.place all) k now) further behind, omega (arith, place_is, fits, le, readable_length before all there)))

    -- something stands behind it
    gap_stands : n < length (readable mid) → ((text : List ℕ) (len : ℕ) → drop len text ≡ bytes → Passed text len inside → IsGap text (len + n)) → Goes a b old (given mid place) (SkipsTo true old (given mid place))
    gap_stands lt ends before taken is =
        let (more, there, (p, le)) = gone before taken is in
        let all = taken ++ more in
        let gap = ends (text_behind old.limit old.place all) (mid.place - old.place) (behind_there before all there) p in
        let within : old.place ≤ length (take old.limit all) = omega (arith, from, le) in
        let short : mid.place - old.place + n < length (text_behind old.limit old.place all) = omega (arith, lt, from, le, readable_length before all there, length-drop old.place (take old.limit all)) in
        (more, gives_up before all there, stands_behind old.limit old.place all within (mid.place - old.place + n) place gap short (omega (arith, place_is, from)))

    -- nothing is left, and no more can be taken
    gap_ends : (now : Bool) → n ≡ length (readable mid) → ((text : List ℕ) (len : ℕ) → drop len text ≡ bytes → Passed text len inside → Passed text (len + n) now) → ¬ MayTake (given mid place) → Goes a b old (given mid place) (SkipsTo false old (given mid place))
    gap_ends now all_passed passed no_more before taken is =
        let (more, there, (p, le)) = gone before taken is in
        let all = taken ++ more in
        let behind = passed (text_behind old.limit old.place all) (mid.place - old.place) (behind_there before all there) p in
        let within : old.place ≤ length (take old.limit all) = omega (arith, from, le) in
        let whole : mid.place - old.place + n ≡ length (text_behind old.limit old.place all) = omega (arith, all_passed, from, le, readable_length before all there, length-drop old.place (take old.limit all)) in
        (more, gives_up before all there, (nothing_behind old.limit old.place all within (mid.place - old.place + n) now behind whole, omega (arith, place_is, all_passed, le, readable_length before all there), no_more))

    -- by whether something stands behind it
    pub gap_left : (stands now : Bool) → stands ≡ nat_lt n (length bytes) → ((text : List ℕ) (len : ℕ) → drop len text ≡ bytes → Passed text len inside → Passed text (len + n) now)
        → (n < length bytes → (text : List ℕ) (len : ℕ) → drop len text ≡ bytes → Passed text len inside → IsGap text (len + n)) → (stands ≡ false → ¬ MayTake (given mid place)) → Goes a b old (given mid place) (SkipsTo stands old (given mid place))
    gap_left true now is passed ends no_more =
        let lt = ltb-true n (length bytes) (sym is) in
        gap_stands (subst (λ bs. n < length bs) bytes_are lt) (ends lt)
    gap_left false now is passed ends no_more =
        let all : n ≡ length bytes = le_both n (length bytes) within_bytes (ltb-false n (length bytes) (sym is)) in
        gap_ends now (all ∙ ap length bytes_are) passed (no_more refl)

-- giving up bytes takes none
pub given_count : (held : Held) (place : ℕ) → held.place ≤ place → place ≤ taken_count held → taken_count (given held place) ≡ taken_count held
given_count held place from to = omega (arith, from, to, length-drop (place - held.place) held.bytes)

-- so many of the bytes that may be read are given up
pub given_in : (held : Held) (bytes : List ℕ) → bytes ≡ readable held → (n place : ℕ) → place ≡ held.place + n → n ≤ length bytes → held.place ≤ held.limit → (held.place ≤ place) × (place ≤ taken_count held) × (place ≤ held.limit)
given_in held bytes is n place place_is within fits =
    let long : length bytes ≡ length (take (held.limit - held.place) held.bytes) = ap length is in
    let front = length-take (held.limit - held.place) held.bytes in
    (omega (arith, place_is), omega (arith, place_is, within, long, front), omega (arith, place_is, within, fits, long, front))

pub given_to_take : (held : Held) (place : ℕ) → held.place ≤ place → place ≤ taken_count held → to_take (given held place) ≡ to_take held
given_to_take held place from to = ap (λ n. (held.limit + 1 - n) + open_count held.state) (given_count held place from to)

-- more is taken behind it
pub gap_more : (a b c : Option (List ℕ)) (old mid new : Held) (inside : Bool) → old.place ≤ mid.place → Goes a b old mid (GapTo inside old mid) → Takes b c mid new → Goes a c old new (GapTo inside old new)
gap_more a b c old mid new inside from gone t before taken is =
    let (more, there, (p, le)) = gone before taken is in
    let all = taken ++ more in
    let further = more_taken before b c all mid new there t in
    let parts = append_assoc taken more t.taken in
    let (others, longer) = front_take old.limit all t.taken in
    let within : old.place ≤ length (take old.limit all) = omega (arith, from, le) in
    let fits : mid.place - old.place ≤ length (text_behind old.limit old.place all) = omega (arith, le, from, length-drop old.place (take old.limit all)) in
    let passed = skipped_more inside old.limit old.place (mid.place - old.place) all t.taken within fits p in
    let place : new.place ≤ length (take old.limit (all ++ t.taken)) = omega (arith, le, t.place, ap length longer, length-append (take old.limit all) others) in
    let holds : GapTo inside old new (all ++ t.taken) = (subst (λ k. Passed (text_behind old.limit old.place (all ++ t.taken)) (k - old.place) inside) (sym t.place) passed, place) in
    (more ++ t.taken, subst (λ bs. IsTaken before c bs new) parts further, subst (GapTo inside old new) parts holds)
