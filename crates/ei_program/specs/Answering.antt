-- The mode that answers the terms of a text by a line each.
use Rattle.std.specs.Prelude.{◌≡◌, ◌⊎◌, ℕ, List, [], ◌++◌, Option, Some, None}
use Rattle.eq_base.specs.Tree.{Tree}
use Rattle.eq_base.specs.ReadHead.{ReadHead}
use Rattle.symbol_table.specs.Table.{IsFront}
use Rattle.term_input.specs.Inputs.{End, whole, refused, long}
use Rattle.term_input.specs.TermReading.{IsReadAs, AreFirst}
use Rattle.ei_program.specs.declared.settings.Settings.{Settings}
use Rattle.ei_program.specs.declared.stop.Stop.TheVariants.{NoMemory, ReadFailed, WriteFailed}
use Rattle.ei_program.specs.declared.outcome.Outcome.{Outcome}
use Rattle.ei_program.specs.declared.outcome.Outcome.TheVariants.{Answered, Questions, TermRefused}
use Rattle.ei_program.specs.declared.outcome.Outcome.TheVariants.{InputLong, Stopped}
use Rattle.ei_program.specs.Definitions.{Definitions}
use Rattle.ei_program.specs.Lines.{IsLine, SomeQuestion, AreLines, bytes_of}
use Rattle.ei_program.specs.Outcomes.{Told, told_of}
use Rattle.ei_program.specs.Done.{Rest, untouched, nothing, some_back, Done, IsLeft}

-- the terms of a text were answered by these lines up to this end: status 3 exactly where some line begins
-- with `?`
abbrev pub IsTold : End → List (List ℕ) → Told → Type 0
IsTold whole lines told =
    (SomeQuestion lines × (told ≡ told_of Questions)) ⊎ ((¬ SomeQuestion lines) × (told ≡ told_of Answered))
IsTold (refused fault) lines told = told ≡ told_of (TermRefused fault)
IsTold long lines told = told ≡ told_of InputLong

-- what is left of an input that was read to this end, where the terms came from it and from no named file
abbrev pub rest_of : Option (List ℕ) → End → Rest
rest_of (Some name) end = untouched
rest_of None whole = nothing
rest_of None end = some_back

-- all terms of a text are answered, each by its line, in order, up to the end of its reading
pub record AnswersText (settings : Settings) (d : Definitions) (source : Option (List ℕ)) (text : List ℕ)
    (done : Done) : Type 0 where
  pub terms : List (Tree ReadHead)
  pub end : End
  pub read : IsReadAs settings.syntax d.names settings.input_bytes text terms end
  pub fit : AreLines (IsLine settings d) terms done.lines
  pub told : IsTold end done.lines done.told
  pub rest : done.rest ≡ rest_of source end

-- the first terms of a text are answered by these lines
pub record AnswersFirst (settings : Settings) (d : Definitions) (text : List ℕ)
    (lines : List (List ℕ)) : Type 0 where
  pub terms : List (Tree ReadHead)
  pub last : ℕ
  pub read : AreFirst settings.syntax d.names settings.input_bytes text terms last
  pub fit : AreLines (IsLine settings d) terms lines

-- a read failed behind a front of the text, which was answered as a text of its own
pub record IsCutShort (settings : Settings) (d : Definitions) (text : List ℕ) (left : Option (List ℕ))
    (written : List ℕ) : Type 0 where
  pub taken : List ℕ
  pub rest : List ℕ
  pub parts : text ≡ taken ++ rest
  pub leaves : left ≡ Some rest
  pub done : Done
  pub answered : AnswersText settings d None taken done
  pub output : written ≡ bytes_of done.lines

-- what is left of a text whose terms are answered, and what is written, by the outcome: all, or a beginning
-- of it
abbrev pub TextLeft : Settings → Definitions → List ℕ → Option (List ℕ) → Outcome → List ℕ → Type 0
TextLeft settings d text left (Stopped NoMemory) written =
    (lines : List (List ℕ)) × AnswersFirst settings d text lines × (written ≡ bytes_of lines)
TextLeft settings d text left (Stopped WriteFailed) written =
    (lines : List (List ℕ)) × AnswersFirst settings d text lines × IsFront written (bytes_of lines)
TextLeft settings d text left (Stopped ReadFailed) written = IsCutShort settings d text left written
TextLeft settings d text left outcome written =
    (done : Done) × AnswersText settings d None text done × (done.told ≡ told_of outcome)
    × IsLeft text done.rest left × (written ≡ bytes_of done.lines)

-- the same for the terms of a file that is there; where it is not, or was not read, nothing is written
abbrev pub FileLeft : Settings → Definitions → (found left : Option (List ℕ)) → Outcome → List ℕ → Type 0
FileLeft settings d (Some text) left outcome written =
    TextLeft settings d text left outcome written ⊎ ((outcome ≡ Stopped ReadFailed) × (written ≡ []))
FileLeft settings d None left outcome written = (outcome ≡ Stopped ReadFailed) × (written ≡ [])
