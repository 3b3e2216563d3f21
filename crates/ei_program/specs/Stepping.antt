-- What is done with what comes next in an input.
use Rattle.std.specs.Prelude.{◌≡◌, ℕ, List, [], Ok, Err, Option, Bool, true, false}
use Rattle.std.specs.Io.KnownBytes.{Appends}
use Rattle.eq_base.specs.Tree.{Tree}
use Rattle.eq_base.specs.ReadHead.{ReadHead}
use Rattle.eq_ports.specs.Moves.{AppendsFront}
use Rattle.term_input.specs.declared.source_state.SourceState.{SourceState}
use Rattle.term_input.specs.declared.source_state.SourceState.TheVariants as states
use Rattle.term_input.specs.Streams.{Held}
use Rattle.ei_program.specs.declared.settings.Settings.{Settings}
use Rattle.ei_program.specs.declared.stop.Stop.TheVariants.{NoMemory, ReadFailed, WriteFailed}
use Rattle.ei_program.specs.declared.reading.End.{End as EndRead}
use Rattle.ei_program.specs.declared.reading.End.TheVariants as ends
use Rattle.ei_program.specs.declared.answer.Step.{Step}
use Rattle.ei_program.specs.declared.answer.Step.TheVariants.{Answer, Question, End, Stopped as StoppedBy}
use Rattle.ei_program.specs.declared.outcome.Outcome.{Outcome}
use Rattle.ei_program.specs.declared.outcome.Outcome.TheVariants.{Answered, Questions, TermRefused}
use Rattle.ei_program.specs.declared.outcome.Outcome.TheVariants.{InputLong, Stopped}
use Rattle.ei_program.specs.Definitions.{Definitions}
use Rattle.ei_program.specs.Lines.{IsFormLine, IsLine, IsQuestion, ended}
use Rattle.ei_program.specs.Reading.{end_of, Goes, TermNext, Settles}

-- the text is a line of the normal form, with its end
abbrev pub IsFormText : Settings → Definitions → Tree ReadHead → List ℕ → Type 0
IsFormText settings d form text =
    (line : List ℕ) × IsFormLine settings d form line × (text ≡ ended line)

-- the text is a line of the term, with its end
abbrev pub IsLineText : Settings → Definitions → Tree ReadHead → List ℕ → Type 0
IsLineText settings d t text = (line : List ℕ) × IsLine settings d t line × (text ≡ ended line)

-- a text is written, by whether it begins with `?`; or a front of it is
abbrev pub WritesText : List ℕ → (out_old out_new : Option (List ℕ)) → Step → Type 0
WritesText text out_old out_new Answer = (¬ IsQuestion text) × Appends out_old out_new text
WritesText text out_old out_new Question = IsQuestion text × Appends out_old out_new text
WritesText text out_old out_new (StoppedBy WriteFailed) = AppendsFront out_old out_new text
WritesText text out_old out_new step = ⊥

-- by these settings and definitions, what is read of what is held changes it so
module _ (settings : Settings) (d : Definitions) (old new : Held) where
  -- the next term is answered by this line
  pub record Answers (line : List ℕ) (taken : List ℕ) : Type 0 where
    pub term : Tree ReadHead
    pub next : TermNext settings.syntax d.names old.limit taken old.place (Ok (term, new.place))
    pub is : IsLine settings d term line

  -- the source has this left behind what was taken, and the output has these bytes, before and now
  module _ (mid left out_old out_new : Option (List ℕ)) where
    -- the next term is answered by a line, and this holds of the line
    abbrev pub AnswersBy : (List ℕ → Type 0) → List ℕ → Type 0
    AnswersBy Holds taken = (line : List ℕ) × Answers line taken × Holds line

    -- the input ends here
    pub record EndsHere (end : EndRead) (taken : List ℕ) : Type 0 where
      pub next : TermNext settings.syntax d.names old.limit taken old.place (Err (end_of end))
      pub settles : Settles settings.syntax d.names old new left end taken
      pub silent : Appends out_old out_new []

    -- what was done with what comes next
    abbrev pub StepLeft : Step → Type 0
    StepLeft Answer = Goes mid left old new
        (AnswersBy (λ line. (¬ IsQuestion line) × Appends out_old out_new (ended line)))
    StepLeft Question = Goes mid left old new
        (AnswersBy (λ line. IsQuestion line × Appends out_old out_new (ended line)))
    StepLeft (End end) = Goes mid left old new (EndsHere end)
    StepLeft (StoppedBy NoMemory) = Appends out_old out_new []
    StepLeft (StoppedBy WriteFailed) = Goes mid left old new
        (AnswersBy (λ line. AppendsFront out_old out_new (ended line)))
    StepLeft (StoppedBy ReadFailed) = ⊥

-- the outcome of an input that ends so, whose lines some begin with `?` or none
abbrev pub IsOutcomeAt : SourceState → EndRead → Bool → Outcome → Type 0
IsOutcomeAt states.Failed end any outcome = outcome ≡ Stopped ReadFailed
IsOutcomeAt state (ends.Refused fault) any outcome = outcome ≡ TermRefused fault
IsOutcomeAt state ends.Long any outcome = outcome ≡ InputLong
IsOutcomeAt state ends.Whole true outcome = outcome ≡ Questions
IsOutcomeAt state ends.Whole false outcome = outcome ≡ Answered
