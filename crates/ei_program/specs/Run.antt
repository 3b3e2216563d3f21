-- What a run comes to: its phases, and then its mode.
use Rattle.std.specs.Prelude.{◌≡◌, ◌⊎◌, ℕ, ◌^◌, List, [], Result, Ok, Err, Option, Some, None}
use Rattle.std.specs.Io.KnownBytes.{Appends}
use Rattle.symbol_table.specs.Table.{IsFront}
use Rattle.command_line.specs.declared.task.Mode.{Mode}
use Rattle.command_line.specs.declared.task.Mode.TheVariants.{Answer, Check}
use Rattle.command_line.specs.declared.task.Task.{Task}
use Rattle.command_line.specs.Asked.{Asks, IsCommandLine}
use Rattle.ei_program.specs.declared.settings.Settings.{Settings}
use Rattle.ei_program.specs.declared.stop.Stop.TheVariants.{NoMemory, ReadFailed, WriteFailed}
use Rattle.ei_program.specs.declared.outcome.Outcome.{Outcome}
use Rattle.ei_program.specs.declared.outcome.Outcome.TheVariants.{BadWords, Stopped}
use Rattle.ei_program.specs.Definitions.{Definitions}
use Rattle.ei_program.specs.Accepting.{Accepts}
use Rattle.ei_program.specs.Lines.{bytes_of}
use Rattle.ei_program.specs.Outcomes.{Told, told_of}
use Rattle.ei_program.specs.Phases.{Then}
use Rattle.ei_program.specs.Done.{Done, ended_early, IsLeft}
use Rattle.ei_program.specs.Answering.{AnswersText, AnswersFirst, IsCutShort}
use Rattle.ei_program.specs.Checking.{checked}

-- what a run is given: its words, the bytes under each name, and its input
pub record Given : Type 0 where
  pub words : List (List ℕ)
  pub named : List ℕ → Option (List ℕ)
  pub input : List ℕ

-- what words ask for: a task, with the name of a file of definitions and, perhaps, that of one with terms
pub record Command : Type 0 where
  pub task : Task
  pub file : List ℕ
  pub terms : Option (List ℕ)

-- how terms are read and answered for a task
abbrev pub settings_of : Task → Settings
settings_of task = record {
  syntax = task.syntax;
  budget = task.budget;
  most = task.most;
  input_bytes = 2 ^ 40;
}

-- ---- the phases

-- the words are a command line, or are none
abbrev pub HasWords : Given → Result Command Told → Type 0
HasWords given (Ok command) = Asks given.words command.task command.file command.terms
HasWords given (Err told) = (¬ IsCommandLine given.words) × (told ≡ told_of BadWords)

-- the file of that name has these bytes, or is not there
abbrev pub HasFile : Given → List ℕ → Result (List ℕ) Told → Type 0
HasFile given name (Ok bytes) = given.named name ≡ Some bytes
HasFile given name (Err told) = (given.named name ≡ None) × (told ≡ told_of (Stopped ReadFailed))

-- the file that the words name defines this
abbrev pub HasDefinitions : Given → Command → Result Definitions Told → Type 0
HasDefinitions given command r = Then (HasFile given command.file) (Accepts command.task.syntax) r

-- where terms come from: a named file, or else the input
abbrev pub HasTerms : Given → Option (List ℕ) → Result (List ℕ) Told → Type 0
HasTerms given (Some name) r = HasFile given name r
HasTerms given None r = r ≡ Ok given.input

-- ---- the modes

-- the phase that ends the run, where the work of its mode is done
abbrev pub IsWork : (Done → Type 0) → Result Done Told → Type 0
IsWork Work (Ok done) = Work done
IsWork Work (Err told) = ⊥

-- the terms of the text are answered for a command
abbrev pub AnswersTerms : Command → Definitions → List ℕ → Done → Type 0
AnswersTerms command d text done = AnswersText (settings_of command.task) d command.terms text done

-- what a mode does with what the file defines
abbrev pub DoesMode : Mode → Given → Command → Definitions → Result Done Told → Type 0
DoesMode Answer given command d r =
    Then (HasTerms given command.terms) (λ text. IsWork (AnswersTerms command d text)) r
DoesMode Check given command d r = r ≡ Ok (checked d)

-- ---- the run

-- the words, the file, and then the mode
abbrev pub Comes : Given → Result Done Told → Type 0
Comes given r = Then (HasWords given)
    (λ command. Then (HasDefinitions given command) (DoesMode command.task.mode given command)) r

-- what is done where a phase may have ended the run
abbrev pub done_of : Result Done Told → Done
done_of (Ok done) = done
done_of (Err told) = ended_early told

-- what the run has to come to, where no port fails and memory is found
pub record IsDue (given : Given) (done : Done) : Type 0 where
  pub result : Result Done Told
  pub comes : Comes given result
  pub is : done ≡ done_of result

-- ---- what a run leaves, whatever fails

-- the words and the file ask that these terms are answered by these definitions
pub record AsksFor (given : Given) (command : Command) (d : Definitions) (text : List ℕ) : Type 0 where
  pub asks : Asks given.words command.task command.file command.terms
  pub answers : command.task.mode ≡ Answer
  pub defines : HasDefinitions given command (Ok d)
  pub source : HasTerms given command.terms (Ok text)

-- what is left of the text with the terms: of the named file, or else of the input
abbrev pub left_of_terms : Option (List ℕ) → (of_file of_input : Option (List ℕ)) → Option (List ℕ)
left_of_terms (Some name) of_file of_input = of_file
left_of_terms None of_file of_input = of_input

-- the input is as it was, where the terms come from a named file
abbrev pub IsInputKept : Given → Option (List ℕ) → (of_input : Option (List ℕ)) → Type 0
IsInputKept given (Some name) of_input = of_input ≡ Some given.input
IsInputKept given None of_input = Unit {0}

-- a read of the terms failed behind a front of them, which was answered
pub record IsStoppedShort (given : Given) (of_file of_input : Option (List ℕ))
    (written : List ℕ) : Type 0 where
  pub command : Command
  pub definitions : Definitions
  pub text : List ℕ
  pub asks : AsksFor given command definitions text
  pub cut : IsCutShort (settings_of command.task) definitions text
      (left_of_terms command.terms of_file of_input) written
  pub input : IsInputKept given command.terms of_input

-- what a mode may have written before its end, in whole lines
abbrev pub BeginsMode : Mode → Given → Command → Definitions → List (List ℕ) → Type 0
BeginsMode Answer given command d lines = (text : List ℕ) × HasTerms given command.terms (Ok text)
    × AnswersFirst (settings_of command.task) d text lines
BeginsMode Check given command d lines = IsFront lines (checked d).lines

-- the words and the file ask for a mode that may have written these lines before its end
pub record HasBegun (given : Given) (lines : List (List ℕ)) : Type 0 where
  pub command : Command
  pub definitions : Definitions
  pub asks : Asks given.words command.task command.file command.terms
  pub defines : HasDefinitions given command (Ok definitions)
  pub begun : BeginsMode command.task.mode given command definitions lines

-- a run may have written these lines before its end
abbrev pub Begins : Given → List (List ℕ) → Type 0
Begins given lines = (lines ≡ []) ⊎ HasBegun given lines

-- what is left of the chosen file and of the input, and written to the output, by the outcome: what is due,
-- or a beginning of it
abbrev pub Leaves : Given → (of_file of_input : Option (List ℕ)) → Outcome → List ℕ → Type 0
Leaves given of_file of_input (Stopped NoMemory) written =
    (lines : List (List ℕ)) × Begins given lines × (written ≡ bytes_of lines)
Leaves given of_file of_input (Stopped WriteFailed) written =
    (lines : List (List ℕ)) × Begins given lines × IsFront written (bytes_of lines)
Leaves given of_file of_input (Stopped ReadFailed) written =
    ((of_input ≡ Some given.input) × (written ≡ [])) ⊎ IsStoppedShort given of_file of_input written
Leaves given of_file of_input outcome written =
    (done : Done) × IsDue given done × (done.told ≡ told_of outcome) × IsLeft given.input done.rest of_input
    × (written ≡ bytes_of done.lines)

-- the output grew by what was written
abbrev pub LeavesOn : (List ℕ → Type 0) → Option (List ℕ) → Option (List ℕ) → Type 0
LeavesOn Left old new = (written : List ℕ) × Left written × Appends old new written
