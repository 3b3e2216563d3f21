-- What comes next in the bytes that were taken of an input comes next in the input, where the bytes hold the whole window and one more, or one more than the limit.
use Rattle.std.proofs.Common.{◌≡◌, ℕ, suc, ◌+◌, ◌<◌, ◌≤◌, List, [], ◌∷◌, ◌++◌, length, drop, take, arith, Result, Ok, Err, inl, inr, refl, sym, ◌∙◌, ap, subst, length-drop, length-append, take_all}
use Rattle.std.proofs.lemmas.Bool.{cases_order}
use Rattle.std.proofs.lemmas.List.{drop-append-le, take-append-le, length-take}
use Rattle.term_lex.specs.declared.fault.Fault.{Fault}
use Rattle.term_input.specs.Places.{StandsNext}
use Rattle.term_input.specs.Inputs.{End, window_bytes, read_bytes, window, IsCut, EndsAt, IsNext, IsReadFrom, IsReadTo}
use Rattle.term_input.specs.Readers.{IsReader}
use Rattle.term_input.proofs.Gaps.{one_byte, next_front}
use Rattle.term_input.proofs.Inputs.{front_take, next_of_front, next_within}
use Rattle.term_input.proofs.Limits.{next_in}

-- ---- one thing more

module _ {A : Type 0} (ReadsOne : List ℕ → Result (A × ℕ) Fault → Type 0) (BytesEnded : List ℕ → Fault → Type 0) (limit : ℕ) (input : List ℕ) where
  -- one more thing behind the first ones
  pub read_next : (at last next : ℕ) (xs : List A) (x : A) → IsReadTo ReadsOne BytesEnded limit input at xs last → IsNext ReadsOne BytesEnded limit input last (Ok (x, next)) → IsReadTo ReadsOne BytesEnded limit input at (xs ++ x ∷ []) next
  read_next at last next [] x p q = (next, subst (λ n. IsNext ReadsOne BytesEnded limit input n (Ok (x, next))) (sym p) q, refl)
  read_next at last next (y ∷ ys) x (behind, p, rest) q = (behind, p, read_next behind last next ys x rest q)

  -- the end behind the first ones
  pub read_end : (at last : ℕ) (xs : List A) (end : End) → IsReadTo ReadsOne BytesEnded limit input at xs last → IsNext ReadsOne BytesEnded limit input last (Err end) → IsReadFrom ReadsOne BytesEnded limit input at xs end
  read_end at last [] end p q = subst (λ n. IsNext ReadsOne BytesEnded limit input n (Err end)) (sym p) q
  read_end at last (y ∷ ys) end (behind, p, rest) q = (behind, p, read_end behind last ys end rest q)

-- ---- a front that is long enough

module _ {A : Type 0} (ReadsOne : List ℕ → Result (A × ℕ) Fault → Type 0) (BytesEnded : List ℕ → Fault → Type 0) (limit : ℕ) (taken rest : List ℕ) where
  abbrev bytes : List ℕ → List ℕ
  bytes input = read_bytes ReadsOne BytesEnded limit input

  abbrev window_in : List ℕ → ℕ → List ℕ
  window_in input from = window ReadsOne BytesEnded limit input from

  abbrev Next : List ℕ → ℕ → Result (A × ℕ) End → Type 0
  Next input at r = IsNext ReadsOne BytesEnded limit input at r

  -- where one byte more than the limit was taken
  pub next_past_limit : (at : ℕ) (r : Result (A × ℕ) End) → length taken ≡ suc limit → Next taken at r → Next (taken ++ rest) at r
  next_past_limit at r len p =
      let front : take (suc limit) (taken ++ rest) ≡ taken = ap (λ n. take n (taken ++ rest)) (sym len) ∙ take-append-le (length taken) taken rest (omega arith) ∙ take_all (length taken) taken (omega arith) in
      next_in ReadsOne BytesEnded limit (taken ++ rest) at r (subst (λ bs. Next bs at r) (sym front) p)

  -- the windows are the same
  same_window : (from : ℕ) → from + window_bytes < length taken → window_in (taken ++ rest) from ≡ window_in taken from
  same_window from far = elim (cases_order limit (length taken)) [
    | inl same ↦ within_limit (omega (arith, same))
    | inr (inl less) ↦ within_limit (omega (arith, less))
    | inr (inr more) ↦
        let (behind, longer) = front_take limit taken rest in
        let room : from + window_bytes < length (bytes taken) = omega (arith, far, more, length-take limit taken) in
        ap (λ bs. take window_bytes (drop from bs)) longer
        ∙ ap (λ bs. take window_bytes bs) (drop-append-le from (bytes taken) behind (omega (arith, room)))
        ∙ take-append-le window_bytes (drop from (bytes taken)) behind (omega (arith, room, length-drop from (bytes taken)))
  ]
    where
      within_limit : limit ≤ length taken → window_in (taken ++ rest) from ≡ window_in taken from
      within_limit le = ap (λ bs. take window_bytes (drop from bs)) (take-append-le limit taken rest le)

  window_short : (from : ℕ) → length (window_in taken from) ≤ window_bytes
  window_short from = omega (arith, length-take window_bytes (drop from (bytes taken)))

  module _ (from : ℕ) (far : from + window_bytes < length taken) where
    goes_on : from + length (window_in taken from) < length taken
    goes_on = omega (arith, far, window_short from)

    goes_on_behind : from + length (window_in (taken ++ rest) from) < length (taken ++ rest)
    goes_on_behind = subst (λ w. from + length w < length (taken ++ rest)) (sym (same_window from far)) (omega (arith, goes_on, length-append taken rest))

    cut_of : (fault : Fault) → IsCut ReadsOne BytesEnded limit (taken ++ rest) from fault → IsCut ReadsOne BytesEnded limit taken from fault
    cut_of fault (ended, _) = (subst (λ w. BytesEnded w fault) (same_window from far) ended, goes_on)

    cut_in : (fault : Fault) → IsCut ReadsOne BytesEnded limit taken from fault → IsCut ReadsOne BytesEnded limit (taken ++ rest) from fault
    cut_in fault (ended, _) = (subst (λ w. BytesEnded w fault) (sym (same_window from far)) ended, goes_on_behind)

    end_in : (fault : Fault) (end : End) → EndsAt ReadsOne BytesEnded limit taken from fault end → EndsAt ReadsOne BytesEnded limit (taken ++ rest) from fault end
    end_in fault end (inl p) = inl ((λ cut. p.0 (cut_of fault cut)), p.1)
    end_in fault end (inr (inl p)) = inr (inl (cut_in fault p.0, subst (λ w. length w ≡ window_bytes) (sym (same_window from far)) p.1, p.2))
    end_in fault end (inr (inr p)) = inr (inr (cut_in fault p.0, subst (λ w. length w < window_bytes) (sym (same_window from far)) p.1, p.2))

  module _ (reader : IsReader ReadsOne) where
    -- where the whole window of the thing that comes next was taken, and one byte more
    pub next_of_window : (at from : ℕ) (r : Result (A × ℕ) End) → at ≤ length (bytes taken) → StandsNext (bytes taken) at from → from + window_bytes < length taken → Next taken at r → Next (taken ++ rest) at r
    next_of_window at from (Ok x) le stands far p = next_of_front ReadsOne BytesEnded reader limit taken rest at x le p
    next_of_window at from (Err end) le stands far (inl (nothing, _)) = absurd (omega (arith, stands.1, one_byte (bytes taken) at from (length (bytes taken)) stands.0 nothing))
    next_of_window at from (Err end) le stands far (inr (from', fault, stands', reads, ends)) =
        let place : from' ≡ from = one_byte (bytes taken) at from' from stands'.0 stands.0 in
        let far' : from' + window_bytes < length taken = omega (arith, far, place) in
        let (more, longer) = front_take limit taken rest in
        let there = subst (λ bs. StandsNext bs at from') (sym longer) (next_front (bytes taken) more at from' le stands') in
        inr (from', fault, there, subst (λ w. ReadsOne w (Err fault)) (sym (same_window from' far')) reads, end_in from' far' fault end ends)

    -- the first things of a front of the input are its first ones
    pub first_of_front : (at last : ℕ) (xs : List A) → at ≤ length (bytes taken) → IsReadTo ReadsOne BytesEnded limit taken at xs last → IsReadTo ReadsOne BytesEnded limit (taken ++ rest) at xs last
    first_of_front at last [] le p = p
    first_of_front at last (x ∷ xs) le (next, p, behind) =
        (next, next_of_front ReadsOne BytesEnded reader limit taken rest at (x, next) le p, first_of_front next last xs (next_within ReadsOne BytesEnded reader limit taken at next x p).1 behind)
