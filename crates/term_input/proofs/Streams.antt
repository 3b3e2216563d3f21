-- What was taken of an input, while more is taken and bytes are given up.
use Rattle.std.proofs.Common.{◌≡◌, ◌⊎◌, ℕ, ◌+◌, ◌-◌, ◌≤◌, List, [], ◌++◌, length, drop, arith, Option, inl, inr, refl, sym, ◌∙◌, ap, subst, length-drop, length-append, drop-drop}
use Rattle.std.specs.Io.KnownBytes.{IsAtEnd}
use Rattle.std.proofs.KnownBytes.{Consumes-nil, Consumes-trans}
use Rattle.std.proofs.lemmas.Bool.{cases_order}
use Rattle.std.proofs.lemmas.List.{drop-append-le}
use Rattle.term_input.specs.declared.source_state.SourceState.{SourceState}
use Rattle.term_input.specs.declared.source_state.SourceState.TheVariants.{Open, AtEnd, Failed}
use Rattle.term_input.specs.Streams.{Held, nothing_held, taken_count, MayTake, Takes, IsTaken}

-- whether a read may be made is decided
may_take : (state : SourceState) (count limit : ℕ) → ((state ≡ Open) × (count ≤ limit)) ⊎ (¬ ((state ≡ Open) × (count ≤ limit)))
may_take Open count limit = elim (cases_order count limit) [
  | inl same ↦ inl (refl, omega (arith, same))
  | inr (inl less) ↦ inl (refl, omega (arith, less))
  | inr (inr more) ↦ inr (λ may. omega (arith, more, may.1))
]
may_take AtEnd count limit = inr (λ may. let no = may.0 in cc (no))
may_take Failed count limit = inr (λ may. let no = may.0 in cc (no))

-- nothing was taken
pub nothing_taken : (left : Option (List ℕ)) (limit : ℕ) → IsTaken left left [] (nothing_held limit)
nothing_taken left limit = record {
  consumed = Consumes-nil left;
  place = omega arith;
  bytes = refl;
  within = omega arith;
  at_end = λ no. cc (no);
}

module _ (before mid left : Option (List ℕ)) (taken : List ℕ) (old new : Held) (is : IsTaken before mid taken old) (t : Takes mid left old new) where
  bytes_behind : new.bytes ≡ drop new.place (taken ++ t.taken)
  bytes_behind =
      t.bytes
      ∙ ap (λ bs. bs ++ t.taken) is.bytes
      ∙ sym (drop-append-le old.place taken t.taken is.place)
      ∙ ap (λ n. drop n (taken ++ t.taken)) (sym t.place)

  count_behind : length (taken ++ t.taken) ≡ taken_count new
  count_behind =
      let held : length new.bytes ≡ length old.bytes + length t.taken = ap length t.bytes ∙ length-append old.bytes t.taken in
      omega (arith, held, length-append taken t.taken, ap length is.bytes, length-drop old.place taken, is.place, t.place)

  end_behind : MayTake old ⊎ (¬ MayTake old) → new.state ≡ AtEnd → IsAtEnd left
  end_behind (inl may) ended = t.at_end may ended
  end_behind (inr may_not) ended =
      let (same, kept) = t.unchanged may_not in
      subst IsAtEnd (sym kept) (is.at_end (sym (ap (λ (held : Held). held.state) same) ∙ ended))

  -- more was taken
  pub more_taken : IsTaken before left (taken ++ t.taken) new
  more_taken = record {
    consumed = Consumes-trans before mid left taken t.taken is.consumed t.consumed;
    place = omega (arith, is.place, t.place, length-append taken t.taken);
    bytes = bytes_behind;
    within = omega (arith, count_behind, t.within);
    at_end = end_behind (may_take old.state (taken_count old) old.limit);
  }

-- bytes were given up
pub given_up : (before left : Option (List ℕ)) (taken : List ℕ) (held : Held) (place : ℕ) → IsTaken before left taken held → held.place ≤ place → place ≤ taken_count held → IsTaken before left taken (record held { bytes = drop (place - held.place) held.bytes; place = place })
given_up before left taken held place is from to =
    let count : length held.bytes ≡ length taken - held.place = ap length is.bytes ∙ length-drop held.place taken in
    let parts : held.place + (place - held.place) ≡ place = omega (arith, from) in
    record {
      consumed = is.consumed;
      place = omega (arith, to, count, is.place);
      bytes = ap (drop (place - held.place)) is.bytes ∙ drop-drop (place - held.place) held.place taken ∙ ap (λ n. drop n taken) parts;
      within = is.within;
      at_end = is.at_end;
    }
