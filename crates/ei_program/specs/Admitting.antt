-- How a definitions file is taken, and its equations admitted.
use Rattle.std.specs.Prelude.{◌≡◌, ℕ, ◌<◌, ◌^◌, List, length, Result, Ok, Err, Vec}
use Rattle.std.specs.declared.option.Option.{Option}
use Rattle.std.specs.declared.option.Option.TheVariants.{Some}
use Rattle.std.specs.declared.alloc.Global.{Global}
use Rattle.term_lex.specs.declared.fault.FaultKind.TheVariants.{FileLong}
use Rattle.symbol_table.specs.Reading.{AreLive}
use Rattle.orthogonal_laws.specs.Operations.{AreTruthsKnown}
use Rattle.ei_program.specs.declared.stop.Stop.TheVariants.{NoMemory, ReadFailed}
use Rattle.ei_program.specs.declared.outcome.Outcome.{Outcome}
use Rattle.ei_program.specs.declared.outcome.Outcome.TheVariants.{FileRefused, Broken, Stopped}
use Rattle.ei_program.specs.declared.definitions.Equations.{Equations}
use Rattle.ei_program.specs.declared.ready.Ready.{Ready}
use Rattle.ei_program.specs.Definitions.{definitions_in, definitions_of}
use Rattle.ei_program.specs.Loading.{IsReady}
use Rattle.ei_program.specs.Restrictions.{AreBroken}

-- these are the bytes of the file; or it is not there, or not taken whole
abbrev pub IsFileTaken : Option (List ℕ) → Result (Vec ℕ Global) Outcome → Type 0
IsFileTaken found (Ok bytes) = found ≡ Some bytes.items
IsFileTaken found (Err (FileRefused fault)) =
    (file : List ℕ) × (found ≡ Some file) × (2 ^ 24 < length file)
    × (fault ≡ record { kind = FileLong; byte = 2 ^ 24 })
IsFileTaken found (Err (Stopped NoMemory)) = Unit {0}
IsFileTaken found (Err (Stopped ReadFailed)) = Unit {0}
IsFileTaken found (Err outcome) = ⊥

-- each number in the equations is live, and the truth values are declared where the value of an operation is
-- one
pub record AreUsable (e : Equations) : Type 0 where
  pub live : AreLive e.symbols e.rules
  pub truths : AreTruthsKnown e.symbols e.rules

-- the equations break no restriction and are as before; or they break these; or memory ran out
abbrev pub IsAdmitted : Equations → Result Ready Outcome → Type 0
IsAdmitted equations (Ok loaded) = (definitions_of loaded ≡ definitions_in equations) × IsReady loaded
IsAdmitted equations (Err (Broken breaks rules)) = AreBroken (definitions_in equations) breaks rules
IsAdmitted equations (Err (Stopped NoMemory)) = Unit {0}
IsAdmitted equations (Err outcome) = ⊥
