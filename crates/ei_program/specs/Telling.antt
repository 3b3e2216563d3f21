-- What the top call leaves: the run's outcome, told by the status and on the errors.
use Rattle.std.specs.Prelude.{◌≡◌, ◌⊎◌, ℕ, List, ◌++◌}
use Rattle.std.specs.declared.option.Option.{Option}
use Rattle.std.specs.Io.KnownBytes.{Appends}
use Rattle.ei_program.specs.declared.outcome.Outcome.{Outcome}
use Rattle.ei_program.specs.declared.outcome.Outcome.TheVariants.{Stopped}
use Rattle.ei_program.specs.declared.stop.Stop.TheVariants.{NoMemory}
use Rattle.ei_program.specs.declared.status.Status.{Status}
use Rattle.ei_program.specs.declared.status.Status.TheVariants as statuses
use Rattle.ei_program.specs.Lines.{bytes_of}
use Rattle.ei_program.specs.Outcomes.{Told, told_of}
use Rattle.ei_program.specs.Done.{Done, IsLeft}
use Rattle.ei_program.specs.Run.{LeavesOn}

-- the message whole and its status, or a front of the message and status 8
abbrev pub IsWritten : Told → Option (List ℕ) → Option (List ℕ) → Status → Type 0
IsWritten told old new result =
    ((result ≡ told.status) × Appends old new told.message)
    ⊎ ((result ≡ statuses.WriteFailed) × (front : List ℕ) × (back : List ℕ) × (front ++ back ≡ told.message)
    × Appends old new front)

-- this is told, or that there is no memory to do so
abbrev pub IsToldOn : Told → Option (List ℕ) → Option (List ℕ) → Status → Type 0
IsToldOn told old new status =
    IsWritten told old new status ⊎ IsWritten (told_of (Stopped NoMemory)) old new status

-- some outcome, with what it leaves by these words, and what is told of it
pub record HasOutcome (Left : Outcome → List ℕ → Type 0) (out_old out_new err_old err_new : Option (List ℕ))
    (status : Status) : Type 0 where
  pub outcome : Outcome
  pub leaves : LeavesOn (Left outcome) out_old out_new
  pub told : IsToldOn (told_of outcome) err_old err_new status

-- all of this was done: what is left of the input, what is written, and what is told
pub record IsDone (input : List ℕ) (done : Done) (left out_old out_new err_old err_new : Option (List ℕ))
    (result : Status) : Type 0 where
  pub rest : IsLeft input done.rest left
  pub lines : Appends out_old out_new (bytes_of done.lines)
  pub status : result ≡ done.told.status
  pub message : Appends err_old err_new done.told.message

-- memory ran out, or something is due, and all of it was done
abbrev pub DoesDue : (Done → Type 0) → List ℕ → (left out_old out_new err_old err_new : Option (List ℕ))
    → Status → Type 0
DoesDue Due input left out_old out_new err_old err_new status =
    (status ≡ statuses.NoMemory)
    ⊎ ((done : Done) × Due done × IsDone input done left out_old out_new err_old err_new status)
