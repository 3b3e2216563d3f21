use Rattle.std.proofs.Common.{◌≡◌, ℕ, Some, slice_get, is_some, sym, ap, subst, ◌∙◌}
use Rattle.std.proofs.lemmas.Option.{none-some, same_Some}
use Rattle.symbol_table.specs.Table.{AreDistinct}
use Rattle.symbol_table.proofs.Places.{contains_from_place, place_from_contains}
use Rattle.symbol_table.proofs.Keys.{found_at, found_nowhere}
use Rattle.symbol_table.proofs.interned.Interned.find.Goals as goal
use Rattle.symbol_table.proofs.interned.Interned.find.Goals.{After-from_residual, In_ok-number}

-- no key has the bytes
nowhere : (c : After-from_residual) (number : ℕ) → slice_get c.args.self.now number ≡ Some c.args.bytes.now → ⊥
nowhere c number at =
    found_nowhere c.args.bytes.now c.self.inside.keys.keys (sym c.in_err-number.ensures.found) number (rw c.self.view_is at)

pub returns-in_err-number-clause-listed : goal.returns-in_err-number-clause-listed
returns-in_err-number-clause-listed c number =
    (λ same. absurd (none-some number (sym c.from_residual.ensures ∙ same)), λ there. absurd (nowhere c number there))

pub returns-in_err-number-clause-none : goal.returns-in_err-number-clause-none
returns-in_err-number-clause-none c = (
  λ _ there. let place = place_from_contains c.args.self.now c.args.bytes.now there in nowhere c place.0 place.1,
  λ _. ap is_some c.from_residual.ensures,
)

-- the key with that number has the bytes
here : (c : In_ok-number) → slice_get c.args.self.now c.in_ok-number.number ≡ Some c.args.bytes.now
here c =
    rw c.self.view_is at
    (found_at c.args.bytes.now c.self.inside.keys.keys c.in_ok-number.number c.in_ok-number.field-0-1.now c.in_ok-number.ensures.stored (sym c.in_ok-number.ensures.key))

pub returns-clause-listed : goal.returns-clause-listed
returns-clause-listed c number =
    let distinct = subst AreDistinct c.self.view_is c.self.invariant in (
      λ same. subst (λ n. slice_get c.args.self.now n ≡ Some c.args.bytes.now) (same_Some c.in_ok-number.number number same) (here c),
      λ there. ap Some (distinct c.args.bytes.now c.in_ok-number.number number (here c) there),
    )

pub returns-clause-none : goal.returns-clause-none
returns-clause-none c = (
  λ never. absurd (cc),
  λ new. absurd (new (contains_from_place c.args.self.now c.in_ok-number.number c.args.bytes.now (here c))),
)
