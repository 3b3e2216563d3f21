-- The terms of a file that was chosen, or could not be.
use Rattle.std.specs.Prelude.{IfSome, OnOk}
use Rattle.std.specs.Result.{is_err}
use Rattle.std.proofs.Common.{◌≡◌, ℕ, List, [], true, false, Option, Some, None, Result, Ok, Err, inl, inr, refl, subst}
use Rattle.eq_ports.specs.Moves.{BeginsAt, Named}
use Rattle.ei_program.specs.declared.settings.Settings.{Settings}
use Rattle.ei_program.specs.declared.stop.Stop.TheVariants.{ReadFailed}
use Rattle.ei_program.specs.declared.outcome.Outcome.{Outcome}
use Rattle.ei_program.specs.declared.outcome.Outcome.TheVariants.{Stopped}
use Rattle.ei_program.specs.Definitions.{Definitions}
use Rattle.ei_program.specs.Answering.{TextLeft, FileLeft}
use Rattle.ei_program.specs.Run.{LeavesOn}

-- a file that could not be chosen
pub not_chosen : (settings : Settings) (d : Definitions) (found left : Option (List ℕ)) → FileLeft settings d found left (Stopped ReadFailed) []
not_chosen settings d (Some text) left = inr (refl, refl)
not_chosen settings d None left = (refl, refl)

-- a file that was chosen, whose bytes were answered
pub chosen : (settings : Settings) (d : Definitions) (found rest left out_old out_new : Option (List ℕ)) (outcome : Outcome) → BeginsAt found rest → ((bytes : List ℕ) → rest ≡ Some bytes → LeavesOn (TextLeft settings d bytes left outcome) out_old out_new) → LeavesOn (FileLeft settings d found left outcome) out_old out_new
chosen settings d (Some text) rest left out_old out_new outcome begins leaves = let (written, l, appends) = leaves text begins in (written, inl l, appends)
chosen settings d None rest left out_old out_new outcome begins leaves = absurd begins

-- by the bytes that are known under each name
pub chosen_begins : (known : Named) (named : List ℕ → Option (List ℕ)) (name : List ℕ) (rest : Option (List ℕ)) → known ≡ Some named → IfSome known (λ look_up. BeginsAt (look_up name) rest) → BeginsAt (named name) rest
chosen_begins known named name rest is begins = let Begins : Named → Type 0 = λ k. IfSome k (λ look_up. BeginsAt (look_up name) rest) in subst Begins is begins

-- what holds of a call that did not fail
pub went_well : {T E P : Type 0} (r : Result T E) → is_err r ≡ false → OnOk r P → P
went_well (Ok x) is holds = holds
went_well (Err e) is holds = let other : true ≡ false = is in cc (other)
