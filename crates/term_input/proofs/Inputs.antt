-- An input is read in one way; a reader that answers always gives each input a reading; and what is read of a front is read of the whole.
use Rattle.std.proofs.Common.{◌≡◌, ◌⊎◌, ℕ, zero, suc, ◌+◌, ◌<◌, ◌≤◌, Bool, true, false, List, [], ◌∷◌, ◌++◌, length, drop, take, arith, Result, Ok, Err, inl, inr, refl, sym, ◌∙◌, ap, subst, length-drop}
use Rattle.std.specs.Prelude.{IsTrue}
use Rattle.std.proofs.lemmas.Bool.{cases_order}
use Rattle.std.proofs.lemmas.List.{drop-append-le, length-take}
use Rattle.term_lex.specs.declared.fault.Fault.{Fault}
use Rattle.symbol_table.specs.Table.{IsFront}
use Rattle.term_input.specs.Places.{IsNextByte, StandsNext}
use Rattle.term_input.specs.Inputs.{End, whole, refused, long, window_bytes, fault_from, too_long, read_bytes, window, EndsAt, EndsBehind, IsNext, IsReadFrom, IsReadTo, IsRead}
use Rattle.term_input.specs.Readers.{IsReader, ReadsBy, EndedBy}
use Rattle.term_input.proofs.Gaps.{some_gap, one_byte, next_front}

-- two answers with a thing and a number that are the same
same_parts : {A E : Type 0} (x y : A) (m n : ℕ) → ◌≡◌ {A = Result (A × ℕ) E} (Ok (x, m)) (Ok (y, n)) → (x ≡ y) × (m ≡ n)
same_parts {A = A} x y m n same = let parts : ◌≡◌ {A = A × ℕ} (x, m) (y, n) = cc (same) in (ap (λ p. p.0) parts, ap (λ p. p.1) parts)

same_errors : {A E : Type 0} (e f : E) → ◌≡◌ {A = Result A E} (Err e) (Err f) → e ≡ f
same_errors e f same = cc (same)

no_answer : {A E : Type 0} (x : A) (e : E) → ◌≡◌ {A = Result A E} (Ok x) (Err e) → ⊥
no_answer x e same = cc (same)

cons_same : {A : Type 0} (x y : A) (xs ys : List A) → x ≡ y → xs ≡ ys → x ∷ xs ≡ y ∷ ys
cons_same x y xs ys e f = cc (e, f)

-- ---- fronts

pub front_take : {A : Type 0} (n : ℕ) (xs ys : List A) → IsFront (take n xs) (take n (xs ++ ys))
front_take zero xs ys = ([], refl)
front_take (suc n) [] ys = (take (suc n) ys, refl)
front_take (suc n) (x ∷ xs) ys = let (more, e) = front_take n xs ys in (more, ap (λ zs. x ∷ zs) e)

take_fits : {A : Type 0} (n : ℕ) (xs : List A) → (length (take n xs) ≤ n) × (length (take n xs) ≤ length xs)
take_fits n xs = (omega (arith, length-take n xs), omega (arith, length-take n xs))

-- all bytes are read in some way, and whether they ended too early is decided
pub record IsTotal {A : Type 0} (ReadsOne : List ℕ → Result (A × ℕ) Fault → Type 0) (BytesEnded : List ℕ → Fault → Type 0) : Type 0 where
  pub some : (window : List ℕ) → (r : Result (A × ℕ) Fault) × ReadsOne window r
  pub decided : (window : List ℕ) (fault : Fault) → BytesEnded window fault ⊎ (¬ BytesEnded window fault)

decided_by : (b : Bool) → IsTrue b ⊎ (¬ IsTrue b)
decided_by true = inl refl
decided_by false = inr (λ no. cc (no))

-- functions answer always
pub total_by : {A : Type 0} (read_one : List ℕ → Result (A × ℕ) Fault) (ended : List ℕ → Fault → Bool) → IsTotal (ReadsBy read_one) (EndedBy ended)
total_by read_one ended = record { some = λ window. (read_one window, refl); decided = λ window fault. decided_by (ended window fault) }

module _ {A : Type 0} (ReadsOne : List ℕ → Result (A × ℕ) Fault → Type 0) (BytesEnded : List ℕ → Fault → Type 0) (reader : IsReader ReadsOne) (limit : ℕ) where
  module _ (input : List ℕ) where
    abbrev bytes : List ℕ
    bytes = read_bytes ReadsOne BytesEnded limit input

    abbrev window_at : ℕ → List ℕ
    window_at from = window ReadsOne BytesEnded limit input from

    abbrev Next : ℕ → Result (A × ℕ) End → Type 0
    Next at r = IsNext ReadsOne BytesEnded limit input at r

    abbrev ReadFrom : ℕ → List A → End → Type 0
    ReadFrom at xs end = IsReadFrom ReadsOne BytesEnded limit input at xs end

    window_fits : (from : ℕ) → from ≤ length bytes → from + length (window_at from) ≤ length bytes
    window_fits from le = omega (arith, le, (take_fits (window_bytes) (drop from bytes)).1, length-drop from bytes)

    -- ---- one answer

    one_end_at : (from : ℕ) (fault : Fault) (e f : End) → EndsAt ReadsOne BytesEnded limit input from fault e → EndsAt ReadsOne BytesEnded limit input from fault f → e ≡ f
    one_end_at from fault e f (inl p) (inl q) = p.1 ∙ sym q.1
    one_end_at from fault e f (inl p) (inr (inl q)) = absurd (p.0 q.0)
    one_end_at from fault e f (inl p) (inr (inr q)) = absurd (p.0 q.0)
    one_end_at from fault e f (inr (inl p)) (inl q) = absurd (q.0 p.0)
    one_end_at from fault e f (inr (inr p)) (inl q) = absurd (q.0 p.0)
    one_end_at from fault e f (inr (inl p)) (inr (inl q)) = p.2 ∙ sym q.2
    one_end_at from fault e f (inr (inl p)) (inr (inr q)) = absurd (omega (arith, p.1, q.1))
    one_end_at from fault e f (inr (inr p)) (inr (inl q)) = absurd (omega (arith, p.1, q.1))
    one_end_at from fault e f (inr (inr p)) (inr (inr q)) = p.2 ∙ sym q.2

    one_end_behind : (e f : End) → EndsBehind ReadsOne BytesEnded limit input e → EndsBehind ReadsOne BytesEnded limit input f → e ≡ f
    one_end_behind e f (inl p) (inl q) = p.1 ∙ sym q.1
    one_end_behind e f (inl p) (inr q) = absurd (omega (arith, p.0, q.0))
    one_end_behind e f (inr p) (inl q) = absurd (omega (arith, p.0, q.0))
    one_end_behind e f (inr p) (inr q) = p.1 ∙ sym q.1

    -- what is read at the beginning of one window
    same_read : (from from' : ℕ) (r s : Result (A × ℕ) Fault) → from ≡ from' → ReadsOne (window_at from) r → ReadsOne (window_at from') s → r ≡ s
    same_read from from' r s same p q = reader.one (window_at from) r s p (subst (λ n. ReadsOne (window_at n) s) (sym same) q)

    pub one_next : (at : ℕ) (r s : Result (A × ℕ) End) → Next at r → Next at s → r ≡ s
    one_next at (Ok x) (Ok y) (from, len, stands, reads, next) (from', len', stands', reads', next') =
        let place : from ≡ from' = one_byte bytes at from from' stands.0 stands'.0 in
        let (thing, lens) = same_parts x.0 y.0 len len' (same_read from from' (Ok (x.0, len)) (Ok (y.0, len')) place reads reads') in
        let behind : x.1 ≡ y.1 = omega (arith, next, next', place, lens) in
        let pair : ◌≡◌ {A = A × ℕ} x y = λ i. (thing i, behind i) in
        ap (λ z. Ok z) pair
    one_next at (Ok x) (Err f) (from, len, stands, reads, next) (inl (nothing, end)) = absurd (omega (arith, stands.1, one_byte bytes at from (length bytes) stands.0 nothing))
    one_next at (Ok x) (Err f) (from, len, stands, reads, next) (inr (from', fault, stands', reads', end)) =
        absurd (no_answer (x.0, len) fault (same_read from from' (Ok (x.0, len)) (Err fault) (one_byte bytes at from from' stands.0 stands'.0) reads reads'))
    one_next at (Err f) (Ok x) (inl (nothing, end)) (from, len, stands, reads, next) = absurd (omega (arith, stands.1, one_byte bytes at from (length bytes) stands.0 nothing))
    one_next at (Err f) (Ok x) (inr (from', fault, stands', reads', end)) (from, len, stands, reads, next) =
        absurd (no_answer (x.0, len) fault (same_read from from' (Ok (x.0, len)) (Err fault) (one_byte bytes at from from' stands.0 stands'.0) reads reads'))
    one_next at (Err e) (Err f) (inl (nothing, end)) (inl (nothing', end')) = ap (λ z. Err z) (one_end_behind e f end end')
    one_next at (Err e) (Err f) (inl (nothing, end)) (inr (from, fault, stands, reads, end')) = absurd (omega (arith, stands.1, one_byte bytes at from (length bytes) stands.0 nothing))
    one_next at (Err e) (Err f) (inr (from, fault, stands, reads, end)) (inl (nothing, end')) = absurd (omega (arith, stands.1, one_byte bytes at from (length bytes) stands.0 nothing))
    one_next at (Err e) (Err f) (inr (from, fault, stands, reads, end)) (inr (from', fault', stands', reads', end')) =
        let place : from ≡ from' = one_byte bytes at from from' stands.0 stands'.0 in
        let faults : fault ≡ fault' = same_errors fault fault' (same_read from from' (Err fault) (Err fault') place reads reads') in
        let moved = subst (λ n. EndsAt ReadsOne BytesEnded limit input n fault' f) (sym place) end' in
        ap (λ z. Err z) (one_end_at from fault e f end (subst (λ g. EndsAt ReadsOne BytesEnded limit input from g f) (sym faults) moved))

    pub one_read : (at : ℕ) (xs ys : List A) (e f : End) → ReadFrom at xs e → ReadFrom at ys f → (xs ≡ ys) × (e ≡ f)
    one_read at [] [] e f p q = (refl, same_errors e f (one_next at (Err e) (Err f) p q))
    one_read at [] (y ∷ ys) e f p (next, q, rest) = absurd (no_answer (y, next) e (one_next at (Ok (y, next)) (Err e) q p))
    one_read at (x ∷ xs) [] e f (next, p, rest) q = absurd (no_answer (x, next) f (one_next at (Ok (x, next)) (Err f) p q))
    one_read at (x ∷ xs) (y ∷ ys) e f (next, p, rest) (next', q, rest') =
        let (thing, behind) = same_parts x y next next' (one_next at (Ok (x, next)) (Ok (y, next')) p q) in
        let others = one_read next xs ys e f rest (subst (λ n. ReadFrom n ys f) (sym behind) rest') in
        (cons_same x y xs ys thing others.0, others.1)

    -- the first things are a front of all
    pub first_front : (at last : ℕ) (xs ys : List A) (f : End) → IsReadTo ReadsOne BytesEnded limit input at xs last → ReadFrom at ys f → IsFront xs ys
    first_front at last [] ys f p q = (ys, refl)
    first_front at last (x ∷ xs) [] f (next, p, rest) q = absurd (no_answer (x, next) f (one_next at (Ok (x, next)) (Err f) p q))
    first_front at last (x ∷ xs) (y ∷ ys) f (next, p, rest) (next', q, rest') =
        let (thing, place) = same_parts x y next next' (one_next at (Ok (x, next)) (Ok (y, next')) p q) in
        let (more, others) = first_front next last xs ys f rest (subst (λ n. ReadFrom n ys f) (sym place) rest') in
        (more, cons_same y x ys (xs ++ more) (sym thing) others)

    -- ---- an answer for each input

    -- the place behind a thing is farther, and within the bytes
    pub next_within : (at next : ℕ) (x : A) → Next at (Ok (x, next)) → (at < next) × (next ≤ length bytes)
    next_within at next x (from, len, stands, reads, e) =
        let own = reader.within (window_at from) x len reads in
        (omega (arith, own.0, e, stands.0.behind), omega (arith, own.1, e, window_fits from (omega (arith, stands.1))))

    module _ (total : IsTotal ReadsOne BytesEnded) where
      some_end_at : (from : ℕ) (fault : Fault) → (e : End) × EndsAt ReadsOne BytesEnded limit input from fault e
      some_end_at from fault = elim (total.decided (window_at from) fault) [
        | inr lasts ↦ (refused (fault_from from fault), inl (λ cut. lasts cut.0, refl))
        | inl ended ↦ some_cut ended
      ]
        where
          some_long : BytesEnded (window_at from) fault → from + length (window_at from) < length input → (e : End) × EndsAt ReadsOne BytesEnded limit input from fault e
          some_long ended goes_on = elim (cases_order (length (window_at from)) (window_bytes)) [
            | inl full ↦ (refused (too_long from), inr (inl ((ended, goes_on), full, refl)))
            | inr (inl short) ↦ (long, inr (inr ((ended, goes_on), short, refl)))
            | inr (inr over) ↦ absurd (omega (arith, over, (take_fits (window_bytes) (drop from bytes)).0))
          ]

          some_cut : BytesEnded (window_at from) fault → (e : End) × EndsAt ReadsOne BytesEnded limit input from fault e
          some_cut ended = elim (cases_order (from + length (window_at from)) (length input)) [
            | inl same ↦ (refused (fault_from from fault), inl (λ cut. omega (arith, same, cut.1), refl))
            | inr (inl goes_on) ↦ some_long ended goes_on
            | inr (inr over) ↦ (refused (fault_from from fault), inl (λ cut. omega (arith, over, cut.1), refl))
          ]

      some_end_behind : (e : End) × EndsBehind ReadsOne BytesEnded limit input e
      some_end_behind = elim (cases_order (length input) limit) [
        | inl same ↦ (whole, inl (omega (arith, same), refl))
        | inr (inl less) ↦ (whole, inl (omega (arith, less), refl))
        | inr (inr more) ↦ (long, inr (more, refl))
      ]

      some_thing : (at from : ℕ) → StandsNext bytes at from → (r : Result (A × ℕ) Fault) → ReadsOne (window_at from) r → (s : Result (A × ℕ) End) × Next at s
      some_thing at from stands (Ok x) reads = (Ok (x.0, from + x.1), (from, x.1, stands, reads, refl))
      some_thing at from stands (Err fault) reads = let (e, end) = some_end_at from fault in (Err e, inr (from, fault, stands, reads, end))

      pub some_next : (at : ℕ) → at ≤ length bytes → (s : Result (A × ℕ) End) × Next at s
      some_next at le =
          let (gap, is) = some_gap (drop at bytes) in
          let fits : at + gap ≤ length bytes = omega (arith, le, is.within, length-drop at bytes) in
          let next : IsNextByte bytes at (at + gap) = record { gap = gap; skipped = is; behind = refl } in
          elim (cases_order (at + gap) (length bytes)) [
            | inl same ↦ let (e, end) = some_end_behind in (Err e, inl (subst (λ n. IsNextByte bytes at n) same next, end))
            | inr (inl less) ↦ let (r, reads) = total.some (window_at (at + gap)) in some_thing at (at + gap) (next, less) r reads
            | inr (inr more) ↦ absurd (omega (arith, more, fits))
          ]

      -- what is read behind an answer, where what is read behind a farther place is known
      read_behind : (at : ℕ) (s : Result (A × ℕ) End) → Next at s → ((x : A) (next : ℕ) → at < next → next ≤ length bytes → (xs : List A) × (e : End) × ReadFrom next xs e) → (xs : List A) × (e : End) × ReadFrom at xs e
      read_behind at (Err e) p farther = ([], e, p)
      read_behind at (Ok x) p farther =
          let within = next_within at x.1 x.0 p in
          let (xs, e, rest) = farther x.0 x.1 within.0 within.1 in
          (x.0 ∷ xs, e, (x.1, p, rest))

      read_on : (fuel at : ℕ) → length bytes ≤ at + fuel → at ≤ length bytes → (xs : List A) × (e : End) × ReadFrom at xs e
      read_on zero at enough le = let (s, next) = some_next at le in read_behind at s next (λ x after lt within. absurd (omega (arith, enough, lt, within)))
      read_on (suc fuel) at enough le = let (s, next) = some_next at le in read_behind at s next (λ x after lt within. read_on fuel after (omega (arith, enough, lt)) within)

      pub some_read : (xs : List A) × (e : End) × IsRead ReadsOne BytesEnded limit input xs e
      some_read = read_on (length bytes) 0 (omega arith) (omega arith)

  -- ---- a front of the input

  module _ (taken rest : List ℕ) where
    -- a thing that ends within a front of the input is the same thing, with the same end, in the whole input
    pub next_of_front : (at : ℕ) (x : A × ℕ) → at ≤ length (bytes taken) → Next taken at (Ok x) → Next (taken ++ rest) at (Ok x)
    next_of_front at x le (from, len, stands, reads, e) =
        let (more, longer) = front_take limit taken rest in
        let inside : from ≤ length (bytes taken) = omega (arith, stands.1) in
        let (behind, wider) = front_take (window_bytes) (drop from (bytes taken)) more in
        let windows : window_at (taken ++ rest) from ≡ window_at taken from ++ behind =
        ap (λ bs. take (window_bytes) (drop from bs)) longer ∙ ap (λ bs. take (window_bytes) bs) (drop-append-le from (bytes taken) more inside) ∙ wider in
        let there = subst (λ bs. StandsNext bs at from) (sym longer) (next_front (bytes taken) more at from le stands) in
        let read = subst (λ bs. ReadsOne bs (Ok (x.0, len))) (sym windows) (reader.front (window_at taken from) behind x.0 len reads) in
        (from, len, there, read, e)

    front_from : (at : ℕ) (xs ys : List A) (e f : End) → at ≤ length (bytes taken) → ReadFrom taken at xs e → ReadFrom (taken ++ rest) at ys f → IsFront xs ys
    front_from at [] ys e f le p q = (ys, refl)
    front_from at (x ∷ xs) [] e f le (next, p, behind) q =
        absurd (no_answer (x, next) f (one_next (taken ++ rest) at (Ok (x, next)) (Err f) (next_of_front at (x, next) le p) q))
    front_from at (x ∷ xs) (y ∷ ys) e f le (next, p, behind) (next', q, behind') =
        let (thing, place) = same_parts x y next next' (one_next (taken ++ rest) at (Ok (x, next)) (Ok (y, next')) (next_of_front at (x, next) le p) q) in
        let (more, others) = front_from next xs ys e f (next_within taken at next x p).1 behind (subst (λ n. ReadFrom (taken ++ rest) n ys f) (sym place) behind') in
        (more, cons_same y x ys (xs ++ more) (sym thing) others)

    -- what is read of a front of the input is a front of what is read of the whole
    pub read_of_front : (xs ys : List A) (e f : End) → IsRead ReadsOne BytesEnded limit taken xs e → IsRead ReadsOne BytesEnded limit (taken ++ rest) ys f → IsFront xs ys
    read_of_front xs ys e f p q = front_from 0 xs ys e f (omega arith) p q
