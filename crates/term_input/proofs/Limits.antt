-- No more is looked at than the bytes up to the limit, and whether there is one more.
use Rattle.std.proofs.Common.{◌≡◌, ℕ, zero, suc, ◌+◌, ◌<◌, ◌≤◌, List, [], ◌∷◌, length, drop, take, arith, Result, Ok, Err, inl, inr, refl, sym, ap, subst, length-drop}
use Rattle.std.proofs.lemmas.List.{length-take}
use Rattle.term_lex.specs.declared.fault.Fault.{Fault}
use Rattle.term_input.specs.Places.{NothingLeft, StandsNext}
use Rattle.term_input.specs.Inputs.{End, window_bytes, read_bytes, IsCut, EndsAt, EndsBehind, IsNext, IsReadFrom, IsRead}

take_fewer : {A : Type 0} (n : ℕ) (xs : List A) → take n (take (suc n) xs) ≡ take n xs
take_fewer zero xs = refl
take_fewer (suc n) [] = refl
take_fewer (suc n) (x ∷ xs) = ap (λ ys. x ∷ ys) (take_fewer n xs)

module _ {A : Type 0} (ReadsOne : List ℕ → Result (A × ℕ) Fault → Type 0) (BytesEnded : List ℕ → Fault → Type 0) (limit : ℕ) (input : List ℕ) where
  abbrev taken : List ℕ
  taken = take (suc limit) input

  abbrev bytes_of_input : List ℕ → List ℕ
  bytes_of_input text = read_bytes ReadsOne BytesEnded limit text

  same_bytes : bytes_of_input taken ≡ bytes_of_input input
  same_bytes = take_fewer limit input

  abbrev window_in : List ℕ → ℕ → List ℕ
  window_in bytes from = take (window_bytes) (drop from bytes)

  -- a place that is within the limit is within what was taken where it is within the input
  shorter : (place : ℕ) → place < length taken → place < length input
  shorter place lt = omega (arith, lt, length-take (suc limit) input)

  within : (place : ℕ) → place ≤ limit → place < length input → place < length taken
  within place le lt = omega (arith, le, lt, length-take (suc limit) input)

  window_within : (from : ℕ) → from < length (bytes_of_input taken) → from + length (window_in (bytes_of_input taken) from) ≤ limit
  window_within from lt = omega (arith, lt, length-take (window_bytes) (drop from (bytes_of_input taken)), length-drop from (bytes_of_input taken), length-take limit taken)

  same_windows : (from : ℕ) → window_in (bytes_of_input taken) from ≡ window_in (bytes_of_input input) from
  same_windows from = ap (λ bs. window_in bs from) same_bytes

  cut_in : (from : ℕ) (fault : Fault) → IsCut ReadsOne BytesEnded limit taken from fault → IsCut ReadsOne BytesEnded limit input from fault
  cut_in from fault (ended, lt) = (subst (λ w. BytesEnded w fault) (same_windows from) ended, subst (λ w. from + length w < length input) (same_windows from) (shorter (from + length (window_in (bytes_of_input taken) from)) lt))

  cut_of : (from : ℕ) (fault : Fault) → from < length (bytes_of_input taken) → IsCut ReadsOne BytesEnded limit input from fault → IsCut ReadsOne BytesEnded limit taken from fault
  cut_of from fault inside (ended, lt) =
      (subst (λ w. BytesEnded w fault) (sym (same_windows from)) ended, within (from + length (window_in (bytes_of_input taken) from)) (window_within from inside) (subst (λ w. from + length w < length input) (sym (same_windows from)) lt))

  end_in : (from : ℕ) (fault : Fault) (end : End) → from < length (bytes_of_input taken) → EndsAt ReadsOne BytesEnded limit taken from fault end → EndsAt ReadsOne BytesEnded limit input from fault end
  end_in from fault end inside (inl p) = inl ((λ cut. p.0 (cut_of from fault inside cut)), p.1)
  end_in from fault end inside (inr (inl p)) = inr (inl (cut_in from fault p.0, subst (λ w. length w ≡ window_bytes) (same_windows from) p.1, p.2))
  end_in from fault end inside (inr (inr p)) = inr (inr (cut_in from fault p.0, subst (λ w. length w < window_bytes) (same_windows from) p.1, p.2))

  behind_in : (end : End) → EndsBehind ReadsOne BytesEnded limit taken end → EndsBehind ReadsOne BytesEnded limit input end
  behind_in end (inl p) = inl (omega (arith, p.0, length-take (suc limit) input), p.1)
  behind_in end (inr p) = inr (omega (arith, p.0, length-take (suc limit) input), p.1)

  -- what comes next in them comes next in the input
  pub next_in : (at : ℕ) (r : Result (A × ℕ) End) → IsNext ReadsOne BytesEnded limit taken at r → IsNext ReadsOne BytesEnded limit input at r
  next_in at (Ok x) (from, len, stands, reads, e) = (from, len, subst (λ bs. StandsNext bs at from) same_bytes stands, subst (λ w. ReadsOne w (Ok (x.0, len))) (same_windows from) reads, e)
  next_in at (Err end) (inl (nothing, p)) = inl (subst (λ bs. NothingLeft bs at) same_bytes nothing, behind_in end p)
  next_in at (Err end) (inr (from, fault, stands, reads, p)) = inr (from, fault, subst (λ bs. StandsNext bs at from) same_bytes stands, subst (λ w. ReadsOne w (Err fault)) (same_windows from) reads, end_in from fault end stands.1 p)

  read_in : (at : ℕ) (xs : List A) (end : End) → IsReadFrom ReadsOne BytesEnded limit taken at xs end → IsReadFrom ReadsOne BytesEnded limit input at xs end
  read_in at [] end p = next_in at (Err end) p
  read_in at (x ∷ xs) end (next, p, rest) = (next, next_in at (Ok (x, next)) p, read_in next xs end rest)

  -- what is read of the bytes up to one behind the limit is read of the input
  pub read_of_taken : (xs : List A) (end : End) → IsRead ReadsOne BytesEnded limit taken xs end → IsRead ReadsOne BytesEnded limit input xs end
  read_of_taken xs end p = read_in 0 xs end p
