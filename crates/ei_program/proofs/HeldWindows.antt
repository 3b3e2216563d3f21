-- The end at the first byte that is held, by its window.
use Rattle.std.proofs.Common.{◌≡◌, ℕ, ◌-◌, ◌<◌, ◌≤◌, List, length, inl, inr, refl, sym, ◌∙◌, ap, subst}
use Rattle.term_lex.specs.declared.fault.Fault.{Fault}
use Rattle.term_lex.specs.declared.fault.FaultKind.TheVariants.{TermLong}
use Rattle.term_input.specs.Ending.{BytesEnded}
use Rattle.term_input.specs.Inputs as inputs
use Rattle.term_input.specs.Streams.{Held}
use Rattle.ei_program.specs.declared.reading.End.TheVariants.{Refused, Long}
use Rattle.ei_program.specs.Reading.{readable, window_of, IsCut, EndsSo}
use Rattle.ei_program.proofs.Lengths.{front_le, front_most, le_then, le_apart, le_both}

-- the window is no longer than what is held, and no longer than a window
pub window_held : (held : Held) → length (window_of held) ≤ length held.bytes
window_held held = le_then (length (window_of held)) (length (readable held)) (length held.bytes) (front_le inputs.window_bytes (readable held)) (front_le (held.limit - held.place) held.bytes)

pub window_most : (held : Held) → length (window_of held) ≤ inputs.window_bytes
window_most held = front_most inputs.window_bytes (readable held)

module _ (held : Held) (fault : Fault) (window bytes : List ℕ) (is : window ≡ window_of held) (bytes_are : bytes ≡ held.bytes) (ended : BytesEnded window fault) (more : length window ≡ length bytes → ⊥) where
  cut : IsCut held fault
  cut = (subst (λ w. BytesEnded w fault) is ended, le_apart (length (window_of held)) (length held.bytes) (window_held held) (λ e. more (ap length is ∙ e ∙ sym (ap length bytes_are))))

  -- the limit has cut it
  pub ends_long : length window < inputs.window_bytes → EndsSo held fault Long
  ends_long short = inr (inr (cut, subst (λ w. length w < inputs.window_bytes) is short, refl))

  -- it is too long
  pub ends_refused : inputs.window_bytes ≤ length window → (from : ℕ) → from ≡ held.place → EndsSo held fault (Refused (record { kind = TermLong; byte = from }))
  ends_refused full from place =
      let all = subst (λ w. inputs.window_bytes ≤ length w) is full in
      inr (inl (cut, le_both (length (window_of held)) inputs.window_bytes (window_most held) all, ap (λ n. Refused (record { kind = TermLong; byte = n })) place))
