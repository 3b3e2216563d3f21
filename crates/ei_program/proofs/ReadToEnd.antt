-- Where all terms of a text are answered, nothing is left of it.
use Rattle.std.proofs.Common.{◌≡◌, ◌⊎◌, ℕ, List, [], Option, Some, None, Err, inl, inr, refl, sym, ◌∙◌, ap, subst}
use Rattle.term_lex.specs.declared.syntax.Syntax.{Syntax}
use Rattle.command_line.specs.declared.task.Mode.TheVariants.{Check}
use Rattle.command_line.specs.declared.task.Task.{Task}
use Rattle.command_line.specs.Parts.{operands_in}
use Rattle.command_line.specs.Asked.{AreOperandsOf, Asks}
use Rattle.command_line.proofs.OneTask.{one_asked}
use Rattle.term_input.specs.Inputs.{End, whole, refused, long}
use Rattle.ei_program.specs.declared.settings.Settings.{Settings}
use Rattle.ei_program.specs.declared.stop.Stop.TheVariants.{ReadFailed}
use Rattle.ei_program.specs.declared.outcome.Outcome.{Outcome}
use Rattle.ei_program.specs.declared.outcome.Outcome.TheVariants.{Answered, Questions, Stopped}
use Rattle.ei_program.specs.declared.status.Status.{Status}
use Rattle.ei_program.specs.declared.status.Status.TheVariants as statuses
use Rattle.ei_program.specs.Definitions.{Definitions}
use Rattle.ei_program.specs.Loading.{IsLoaded}
use Rattle.ei_program.specs.Outcomes.{Told}
use Rattle.ei_program.specs.Done.{Rest, Done, IsLeft}
use Rattle.ei_program.specs.Answering.{IsTold, rest_of, AnswersText, TextLeft, FileLeft}

-- all terms were answered
abbrev pub IsAllAnswered : Outcome → Type 0
IsAllAnswered outcome = (outcome ≡ Answered) ⊎ (outcome ≡ Questions)

abbrev status_in : Told → Status
status_in told = told.status

-- only a text that is read whole is told so
told_whole : (end : End) (lines : List (List ℕ)) (told : Told) → IsTold end lines told → (told.status ≡ statuses.Answered) ⊎ (told.status ≡ statuses.Questions) → end ≡ whole
told_whole whole lines told is all = refl
told_whole (refused fault) lines told is (inl e) = let no : statuses.Term ≡ statuses.Answered = sym (ap status_in is) ∙ e in cc (no)
told_whole (refused fault) lines told is (inr e) = let no : statuses.Term ≡ statuses.Questions = sym (ap status_in is) ∙ e in cc (no)
told_whole long lines told is (inl e) = let no : statuses.InputLong ≡ statuses.Answered = sym (ap status_in is) ∙ e in cc (no)
told_whole long lines told is (inr e) = let no : statuses.InputLong ≡ statuses.Questions = sym (ap status_in is) ∙ e in cc (no)

module _ (settings : Settings) (d : Definitions) where
  nothing_left : (text : List ℕ) (left : Option (List ℕ)) (done : Done) → AnswersText settings d None text done → IsLeft text done.rest left → (done.told.status ≡ statuses.Answered) ⊎ (done.told.status ≡ statuses.Questions) → left ≡ Some []
  nothing_left text left done answers rest all =
      let end = told_whole answers.end done.lines done.told answers.told all in
      subst (λ (r : Rest). IsLeft text r left) (answers.rest ∙ ap (rest_of None) end) rest

  text_to_end : (text : List ℕ) (left : Option (List ℕ)) (outcome : Outcome) (written : List ℕ) → IsAllAnswered outcome → TextLeft settings d text left outcome written → left ≡ Some []
  text_to_end text left outcome written (inl is) t =
      let (done, answers, told, rest, bytes) = subst (λ o. TextLeft settings d text left o written) is t in
      nothing_left text left done answers rest (inl (ap status_in told))
  text_to_end text left outcome written (inr is) t =
      let (done, answers, told, rest, bytes) = subst (λ o. TextLeft settings d text left o written) is t in
      nothing_left text left done answers rest (inr (ap status_in told))

  not_read : (outcome : Outcome) → IsAllAnswered outcome → outcome ≡ Stopped ReadFailed → ⊥
  not_read outcome (inl is) failed = let no : Answered ≡ Stopped ReadFailed = sym is ∙ failed in cc (no)
  not_read outcome (inr is) failed = let no : Questions ≡ Stopped ReadFailed = sym is ∙ failed in cc (no)

  pub file_to_end : (found left : Option (List ℕ)) (outcome : Outcome) (written : List ℕ) → IsAllAnswered outcome → FileLeft settings d found left outcome written → left ≡ Some []
  file_to_end (Some text) left outcome written all (inl t) = text_to_end text left outcome written all t
  file_to_end (Some text) left outcome written all (inr none) = absurd (not_read outcome all none.0)
  file_to_end None left outcome written all none = absurd (not_read outcome all none.0)

-- ---- runs that answer no terms of a named file

-- the words ask for the terms of the input
pub asks_for_input : (words : List (List ℕ)) (one other : Task) (file name terms : List ℕ) → Asks words one file None → Asks words other name (Some terms) → ⊥
asks_for_input words one other file name terms p q =
    let same : None ≡ Some terms = (one_asked words one other file name None (Some terms) p q).2 in cc (same)

-- they ask for a file to be checked
pub asks_for_check : (words : List (List ℕ)) (one other : Task) (file name terms : List ℕ) (more : Option (List ℕ)) → one.mode ≡ Check → Asks words one file more → Asks words other name (Some terms) → ⊥
asks_for_check words one other file name terms more mode p q =
    let same : one ≡ other = (one_asked words one other file name more (Some terms) p q).0 in
    let check : other.mode ≡ Check = ap (λ (t : Task). t.mode) (sym same) ∙ mode in
    subst (λ m. AreOperandsOf m (operands_in q.parts) name (Some terms)) check q.operands

-- the equations are not accepted
pub not_loaded : (syntax : Syntax) (found : Option (List ℕ)) (outcome : Outcome) → IsLoaded syntax found (Err outcome) → IsAllAnswered outcome → ⊥
not_loaded syntax found outcome loaded (inl is) = let L = λ (o : Outcome). IsLoaded syntax found (Err o) in subst L is loaded
not_loaded syntax found outcome loaded (inr is) = let L = λ (o : Outcome). IsLoaded syntax found (Err o) in subst L is loaded
