-- The bytes that were taken of a text.
use Rattle.std.specs.Prelude.{◌≡◌, ℕ, ◌+◌, ◌≤◌, List, length, Result, Ok, Err}
use Rattle.std.specs.declared.option.Option.{Option}
use Rattle.std.specs.Io.KnownBytes.{Consumes, IsAtEnd}
use Rattle.eq_ports.specs.Causes.{Rose}
use Rattle.ei_program.specs.declared.taking.Ending.{Ending}
use Rattle.ei_program.specs.declared.taking.Ending.TheVariants.{Whole, Long, Failed}
use Rattle.ei_program.specs.declared.taking.Taken.{Taken}

-- what an ending says of the bytes that were taken, and of what is left
abbrev pub EndsAs : ℕ → List ℕ → Option (List ℕ) → Ending → Type 0
EndsAs limit bytes left Whole = IsAtEnd left × (length bytes ≤ limit)
EndsAs limit bytes left Long = length bytes ≡ limit + 1
EndsAs limit bytes left Failed = length bytes ≤ limit

-- a front of the text was taken
pub record IsTakenFrom (limit : ℕ) (before left : Option (List ℕ)) (taken : Taken) : Type 0 where
  pub consumed : Consumes before left taken.bytes.items
  pub ends : EndsAs limit taken.bytes.items left taken.ending

-- a read failed
abbrev pub HasFailed : {E : Type 0} → Result Taken E → Type 0
HasFailed (Ok taken) = taken.ending ≡ Failed
HasFailed (Err e) = ⊥

-- the fault count rose where a read failed, and else it is as before
pub record IsReadCount {E : Type 0} (before now : ℕ) (result : Result Taken E) : Type 0 where
  pub later : before ≤ now
  pub failed : HasFailed result → Rose before now
  pub steady : (HasFailed result → ⊥) → now ≡ before
