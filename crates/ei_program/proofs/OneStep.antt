-- One step of the answering, by what was done with what comes next.
use Rattle.std.proofs.Common.{◌≡◌, ℕ, ◌+◌, ◌-◌, ◌<◌, Bool, true, List, [], ◌∷◌, ◌++◌, arith, Option, Some, Ok, Err, sym, subst}
use Rattle.std.specs.Io.KnownBytes.{Appends}
use Rattle.std.proofs.lemmas.List.{length-take}
use Rattle.std.proofs.lemmas.Option.{none-some}
use Rattle.eq_base.specs.Tree.{Tree}
use Rattle.eq_base.specs.ReadHead.{ReadHead}
use Rattle.eq_base.proofs.Heads.{some_same}
use Rattle.eq_ports.specs.Moves.{AppendsFront}
use Rattle.eq_ports.proofs.Known.{appends_none}
use Rattle.symbol_table.specs.Table.{HasDistinctNames}
use Rattle.term_input.specs.Ending.{BytesEnded}
use Rattle.term_input.specs.TermReading.{ReadsOne}
use Rattle.term_input.specs.Streams.{Held}
use Rattle.term_input.proofs.Inputs.{next_within}
use Rattle.term_input.proofs.TermReaders.{term_reader}
use Rattle.ei_program.specs.declared.settings.Settings.{Settings}
use Rattle.ei_program.specs.declared.stop.Stop.{Stop}
use Rattle.ei_program.specs.declared.stop.Stop.TheVariants.{NoMemory, ReadFailed, WriteFailed}
use Rattle.ei_program.specs.declared.reading.End.{End as EndRead}
use Rattle.ei_program.specs.declared.answer.Step.{Step}
use Rattle.ei_program.specs.declared.answer.Step.TheVariants.{Answer, Question, End, Stopped as StoppedBy}
use Rattle.ei_program.specs.declared.outcome.Outcome.{Outcome}
use Rattle.ei_program.specs.declared.outcome.Outcome.TheVariants.{Stopped}
use Rattle.ei_program.specs.Definitions.{Definitions}
use Rattle.ei_program.specs.Lines.{IsQuestion, ended}
use Rattle.ei_program.specs.Reading.{end_of, Goes, TermNext, Settles}
use Rattle.ei_program.specs.Answering.{TextLeft}
use Rattle.ei_program.specs.Run.{LeavesOn}
use Rattle.ei_program.specs.Stepping.{IsLineText, WritesText, Answers, StepLeft, IsOutcomeAt}
use Rattle.ei_program.proofs.Answered.{Answered, answered_by_form, answered_by_question}
use Rattle.ei_program.proofs.Ended.{no_memory_left, broken_off, ended_so}

-- ---- the line

question_ended : (line : List ℕ) → IsQuestion line → IsQuestion (ended line)
question_ended [] q = absurd (none-some 63 q)
question_ended (b ∷ line) q = q

question_of : (line : List ℕ) → IsQuestion (ended line) → IsQuestion line
question_of [] q = absurd (omega (arith, some_same 10 63 q))
question_of (b ∷ line) q = q

-- a term was read, and a text with its line was written, or a front of it
pub written_step : (settings : Settings) (d : Definitions) (old new : Held) (mid left out_old out_new : Option (List ℕ)) (t : Tree ReadHead) (text : List ℕ) → IsLineText settings d t text
    → Goes mid left old new (λ taken. TermNext settings.syntax d.names old.limit taken old.place (Ok (t, new.place)))
    → (step : Step) → WritesText text out_old out_new step → StepLeft settings d old new mid left out_old out_new step
written_step settings d old new mid left out_old out_new t text (line, is, e) goes Answer (plain, appends) = λ before taken there.
    let (more, behind, next) = goes before taken there in
    (more, behind, (line, record { term = t; next = next; is = is }, ((λ q. plain (subst IsQuestion (sym e) (question_ended line q))), subst (Appends out_old out_new) e appends)))
written_step settings d old new mid left out_old out_new t text (line, is, e) goes Question (question, appends) = λ before taken there.
    let (more, behind, next) = goes before taken there in
    (more, behind, (line, record { term = t; next = next; is = is }, (question_of line (subst IsQuestion e question), subst (Appends out_old out_new) e appends)))
written_step settings d old new mid left out_old out_new t text (line, is, e) goes (StoppedBy WriteFailed) front = λ before taken there.
    let (more, behind, next) = goes before taken there in
    (more, behind, (line, record { term = t; next = next; is = is }, subst (AppendsFront out_old out_new) e front))
written_step settings d old new mid left out_old out_new t text l goes (StoppedBy NoMemory) w = absurd w
written_step settings d old new mid left out_old out_new t text l goes (StoppedBy ReadFailed) w = absurd w
written_step settings d old new mid left out_old out_new t text l goes (End end) w = absurd w

-- the input ends, and nothing is written
pub ended_step : (settings : Settings) (d : Definitions) (old new : Held) (mid left out : Option (List ℕ)) (end : EndRead)
    → Goes mid left old new (λ taken. TermNext settings.syntax d.names old.limit taken old.place (Err (end_of end)) × Settles settings.syntax d.names old new left end taken)
    → StepLeft settings d old new mid left out out (End end)
ended_step settings d old new mid left out end goes = λ before taken there.
    let (more, behind, (next, settles)) = goes before taken there in
    (more, behind, record { next = next; settles = settles; silent = appends_none out })

-- ---- the answering goes on, or ends

module _ (settings : Settings) (d : Definitions) (distinct : HasDistinctNames d.names) (before mid left : Option (List ℕ)) (old new : Held) (limit : new.limit ≡ old.limit) (out_old out_mid out_new : Option (List ℕ)) (any : Bool) (so_far : Answered settings d before mid old out_old out_mid any) where
  abbrev Left : Step → Type 0
  Left step = StepLeft settings d old new mid left out_mid out_new step

  pub step_answers : Left Answer → Answered settings d before left new out_old out_new any
  step_answers goes =
      let (more, is, (line, a, (plain, written))) = goes before so_far.taken so_far.is_taken in
      answered_by_form settings d distinct before mid left old new out_old out_mid out_new any so_far more is limit a.term line a.next a.is plain written

  pub step_asks : Left Question → Answered settings d before left new out_old out_new true
  step_asks goes =
      let (more, is, (line, a, (question, written))) = goes before so_far.taken so_far.is_taken in
      answered_by_question settings d distinct before mid left old new out_old out_mid out_new any so_far more is limit a.term line a.next a.is question written

  -- ---- each term has bytes of its own

  place_moves : (line taken : List ℕ) → Answers settings d old new line taken → settings.input_bytes + 1 - new.place < settings.input_bytes + 1 - old.place
  place_moves line taken a =
      let within = next_within (ReadsOne settings.syntax d.names) BytesEnded (term_reader settings.syntax d.names distinct) old.limit taken old.place new.place a.term a.next in
      let first = so_far.within in
      omega (arith, within.0, first, length-take settings.input_bytes so_far.taken)

  pub answer_smaller : Left Answer → settings.input_bytes + 1 - new.place < settings.input_bytes + 1 - old.place
  answer_smaller goes = let (more, is, (line, a, rest)) = goes before so_far.taken so_far.is_taken in place_moves line (so_far.taken ++ more) a

  pub question_smaller : Left Question → settings.input_bytes + 1 - new.place < settings.input_bytes + 1 - old.place
  question_smaller goes = let (more, is, (line, a, rest)) = goes before so_far.taken so_far.is_taken in place_moves line (so_far.taken ++ more) a

  module _ (input : List ℕ) (known : before ≡ Some input) where
    pub step_ends : (end : EndRead) → Left (End end) → (outcome : Outcome) → IsOutcomeAt new.state end any outcome → LeavesOn (TextLeft settings d input left outcome) out_old out_new
    step_ends end goes outcome is_outcome =
        let (more, is, e) = goes before so_far.taken so_far.is_taken in
        ended_so settings d distinct before mid old out_old out_mid any so_far input known left out_new new limit more is end e.next e.settles e.silent outcome is_outcome

    pub step_stops : (stop : Stop) → Left (StoppedBy stop) → LeavesOn (TextLeft settings d input left (Stopped stop)) out_old out_new
    step_stops NoMemory silent = no_memory_left settings d distinct before mid old out_old out_mid any so_far input known left out_new silent
    step_stops ReadFailed goes = absurd goes
    step_stops WriteFailed goes =
        let (more, is, (line, a, front)) = goes before so_far.taken so_far.is_taken in
        broken_off settings d distinct before mid old out_old out_mid any so_far input known left out_new new limit more is line a front
