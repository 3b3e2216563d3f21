-- What is known when a definitions file was loaded.
use Rattle.std.specs.Prelude.{◌≡◌, ◌≢◌, ℕ, ◌≤◌, List, Result, Ok, Err}
use Rattle.std.specs.declared.option.Option.{Option}
use Rattle.std.specs.declared.option.Option.TheVariants.{Some}
use Rattle.eq_ports.specs.Causes.{Rose}
use Rattle.term_lex.specs.declared.syntax.Syntax.{Syntax}
use Rattle.symbol_table.specs.Reading.{AreLive}
use Rattle.sequentiality.specs.Regular.{AreRegular}
use Rattle.orthogonal_laws.specs.Operations.{AreTruthsKnown}
use Rattle.ei_program.specs.declared.stop.Stop.TheVariants.{NoMemory, ReadFailed, WriteFailed}
use Rattle.ei_program.specs.declared.outcome.Outcome.{Outcome}
use Rattle.ei_program.specs.declared.outcome.Outcome.TheVariants.{BadWords, FileRefused, Broken, Stopped}
use Rattle.ei_program.specs.declared.ready.Ready.{Ready}
use Rattle.ei_program.specs.Definitions.{Definitions, BreaksNone, IsAccepted, Defines, RefusesFile}
use Rattle.ei_program.specs.Definitions.{definitions_of}
use Rattle.ei_program.specs.Restrictions.{AreBroken}

-- the equations that a program holds are accepted, keep the restrictions, and can be used
pub record IsReady (l : Ready) : Type 0 where
  pub accepted : IsAccepted (definitions_of l)
  pub regular : AreRegular l.regular
  pub live : AreLive l.symbols l.regular
  pub truths : AreTruthsKnown l.symbols l.regular

-- the file gives equations that break no restriction; or it is not accepted, with this outcome
abbrev pub IsLoaded : Syntax → Option (List ℕ) → Result Ready Outcome → Type 0
IsLoaded syntax found (Ok loaded) = (file : List ℕ) × (found ≡ Some file)
    × Defines syntax file (definitions_of loaded) × BreaksNone (definitions_of loaded)
IsLoaded syntax found (Err (FileRefused fault)) = (file : List ℕ) × (found ≡ Some file)
    × RefusesFile syntax file fault
IsLoaded syntax found (Err (Broken breaks rules)) = (file : List ℕ) × (d : Definitions) × (found ≡ Some file)
    × Defines syntax file d × AreBroken d breaks rules
IsLoaded syntax found (Err (Stopped NoMemory)) = Unit {0}
IsLoaded syntax found (Err (Stopped ReadFailed)) = Unit {0}
IsLoaded syntax found (Err outcome) = ⊥

-- where a read failed, the fault count rose, and else it is as before; nothing is written, and the words are
-- not looked at
pub record IsReadOutcome {T : Type 0} (before now : ℕ) (result : Result T Outcome) : Type 0 where
  pub later : before ≤ now
  pub failed : result ≡ Err (Stopped ReadFailed) → Rose before now
  pub steady : result ≢ Err (Stopped ReadFailed) → now ≡ before
  pub no_write : result ≢ Err (Stopped WriteFailed)
  pub no_words : result ≢ Err BadWords
