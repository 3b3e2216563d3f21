-- Whether a newline stands behind a place.
use Rattle.std.proofs.Common.{◌≡◌, ◌≢◌, ℕ, ◌+◌, ◌-◌, ◌≤◌, ◌==◌, Bool, true, false, List, drop, arith, Some, inl, inr, refl, sym, ◌∙◌, ap, slice_get, slice_index_or}
use Rattle.std.specs.Prelude.{not}
use Rattle.std.specs.List.{IsAnyAnswer}
use Rattle.std.proofs.lemmas.Bool.{eqb-true, eqb-false}
use Rattle.std.proofs.lemmas.Option.{slice_get-get_or, slice_get_within, get_or_from_slice_get}
use Rattle.term_lex.specs.declared.fault.Fault.{Fault}
use Rattle.term_lex.specs.declared.fault.FaultKind.TheVariants.{Unended, OpenString}
use Rattle.term_input.specs.Ending.{BytesEnded}
use Rattle.ei_program.proofs.Behind.{get_behind}

-- the bytes behind the fault's byte are searched for a newline
abbrev pub IsSearched : List ℕ → Bool → Type 0
IsSearched behind found = IsAnyAnswer (λ y b. (y == 10) ≡ b) behind found

module _ (window behind : List ℕ) (fault : Fault) (parts : behind ≡ drop fault.byte window) (kind : fault.kind ≡ OpenString) where
  -- the fault is of no other kind
  apart : fault.kind ≡ Unended → ⊥
  apart other = let both : OpenString ≡ Unended = sym kind ∙ other in cc (both)

  -- a byte so far behind the fault's
  there : (place : ℕ) → fault.byte ≤ place → slice_get behind (place - fault.byte) ≡ slice_get window place
  there place le = let far : place ≡ fault.byte + (place - fault.byte) = omega (arith, le) in ap (λ bs. slice_get bs (place - fault.byte)) parts ∙ get_behind window fault.byte (place - fault.byte) place far

  pub ended_by_newline : (found : Bool) → IsSearched behind found → (not found ≡ true → BytesEnded window fault) × (BytesEnded window fault → not found ≡ true)
  ended_by_newline true (k, lt, newline) = ((λ no. cc (no)), λ ended. absurd (with_newline ended))
    where
      here : slice_get window (fault.byte + k) ≡ Some 10
      here = sym (get_behind window fault.byte k (fault.byte + k) refl) ∙ ap (λ bs. slice_get bs k) (sym parts) ∙ slice_get-get_or behind k 0 lt ∙ ap (λ b. Some b) (eqb-true (slice_index_or behind k 0) 10 (newline 0))

      with_newline : BytesEnded window fault → ⊥
      with_newline (inl other) = apart other
      with_newline (inr (is, none)) = let le : fault.byte ≤ fault.byte + k = omega arith in none (fault.byte + k) le here
  ended_by_newline false none = ((λ _. inr (kind, no_newline)), λ _. refl)
    where
      no_newline : (place : ℕ) → fault.byte ≤ place → slice_get window place ≢ Some 10
      no_newline place le found =
          let found_behind : slice_get behind (place - fault.byte) ≡ Some 10 = there place le ∙ found in
          let within = slice_get_within behind (place - fault.byte) 10 found_behind in
          let zero_le : 0 ≤ place - fault.byte = omega arith in
          let is : slice_index_or behind (place - fault.byte) 0 ≡ 10 = get_or_from_slice_get behind (place - fault.byte) 10 0 found_behind in
          eqb-false (slice_index_or behind (place - fault.byte) 0) 10 (none (place - fault.byte) 0 zero_le within) is
