-- The mode that checks a file.
use Rattle.std.specs.Prelude.{◌≡◌, List, [], ◌∷◌, ◌++◌, length, codes, decimal, ℕ}
use Rattle.symbol_table.specs.Table.{IsFront}
use Rattle.ei_program.specs.declared.stop.Stop.TheVariants.{NoMemory, WriteFailed}
use Rattle.ei_program.specs.declared.outcome.Outcome.{Outcome}
use Rattle.ei_program.specs.declared.outcome.Outcome.TheVariants.{Answered, Stopped}
use Rattle.ei_program.specs.Definitions.{Definitions}
use Rattle.ei_program.specs.Lines.{ended}
use Rattle.ei_program.specs.Outcomes.{told_of}
use Rattle.ei_program.specs.Done.{untouched, Done}

-- the line of a file that is accepted: how many equations it gives
abbrev pub accepted_line : Definitions → List ℕ
accepted_line d = codes "accepted " ++ decimal (length d.equations)

-- the file is told to be accepted, and the input is not touched
abbrev pub checked : Definitions → Done
checked d = record { lines = accepted_line d ∷ []; told = told_of Answered; rest = untouched }

-- what is written when an accepted file is told of, by the outcome: the line, a front of it, or nothing
abbrev pub IsChecked : Definitions → Outcome → List ℕ → Type 0
IsChecked d Answered written = written ≡ ended (accepted_line d)
IsChecked d (Stopped WriteFailed) written = IsFront written (ended (accepted_line d))
IsChecked d (Stopped NoMemory) written = written ≡ []
IsChecked d outcome written = ⊥
