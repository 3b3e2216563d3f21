-- What a run leaves, by its phases.
use Rattle.std.proofs.Common.{◌≡◌, ℕ, List, [], ◌∷◌, Option, Some, None, Ok, Err, inl, inr, refl, sym, ◌∙◌, subst, append-nil}
use Rattle.symbol_table.specs.Table.{IsFront}
use Rattle.command_line.specs.declared.task.Mode.TheVariants.{Answer, Check}
use Rattle.command_line.specs.declared.task.Task.{Task}
use Rattle.command_line.specs.Asked.{Asks, IsCommandLine}
use Rattle.ei_program.specs.declared.settings.Settings.{Settings}
use Rattle.ei_program.specs.declared.stop.Stop.TheVariants.{NoMemory, ReadFailed, WriteFailed}
use Rattle.ei_program.specs.declared.outcome.Outcome.{Outcome}
use Rattle.ei_program.specs.declared.outcome.Outcome.TheVariants.{Answered, Questions, BadWords, FileRefused, Broken, TermRefused, InputLong, Stopped}
use Rattle.term_lex.specs.declared.syntax.Syntax.{Syntax}
use Rattle.ei_program.specs.Definitions.{Definitions, Defines, BreaksNone}
use Rattle.ei_program.specs.Loading.{IsLoaded}
use Rattle.ei_program.specs.Accepting.{IsBroken}
use Rattle.ei_program.specs.Lines.{bytes_of, ended}
use Rattle.ei_program.specs.Outcomes.{Told, told_of}
use Rattle.ei_program.specs.Done.{untouched, Done, ended_early, IsLeft}
use Rattle.ei_program.specs.Answering.{AnswersText, AnswersFirst, TextLeft, FileLeft}
use Rattle.ei_program.specs.Checking.{accepted_line, checked, IsChecked}
use Rattle.ei_program.specs.Run.{Given, Command, settings_of, HasTerms, HasDefinitions, DoesMode, BeginsMode, HasBegun, IsDue, Leaves}

-- the file is there, gives these definitions, and they break no restriction
abbrev pub Loads : Syntax → Option (List ℕ) → Definitions → Type 0
Loads syntax found d = (file : List ℕ) × (found ≡ Some file) × Defines syntax file d × BreaksNone d

-- an answer of which something is due leaves what is due
abbrev pub LeavesDue : Given → Option (List ℕ) → Outcome → List ℕ → Type 0
LeavesDue given of_input outcome written =
    (done : Done) × IsDue given done × (done.told ≡ told_of outcome) × IsLeft given.input done.rest of_input × (written ≡ bytes_of done.lines)

-- words that are no command line
pub refused_words : (given : Given) (of_file of_input : Option (List ℕ)) → ¬ IsCommandLine given.words → of_input ≡ Some given.input → Leaves given of_file of_input BadWords []
refused_words given of_file of_input none is =
    (ended_early (told_of BadWords), record { result = Err (told_of BadWords); comes = inl (told_of BadWords, (none, refl), refl); is = refl }, refl, is, refl)

module _ (given : Given) (task : Task) (name : List ℕ) (terms : Option (List ℕ)) (asks : Asks given.words task name terms) where
  abbrev command : Command
  command = record { task = task; file = name; terms = terms }

  -- ---- a file that is not accepted

  -- where the file ends the run, nothing is taken and nothing written
  ends_early : (told : Told) → HasDefinitions given command (Err told) → IsDue given (ended_early told)
  ends_early told first = record { result = Err told; comes = inr (command, asks, inl (told, first, refl)); is = refl }

  pub not_accepted : (of_file of_input : Option (List ℕ)) (outcome : Outcome) → of_input ≡ Some given.input → IsLoaded task.syntax (given.named name) (Err outcome) → Leaves given of_file of_input outcome []
  not_accepted of_file of_input (FileRefused fault) is (file, found, why) =
      let told = told_of (FileRefused fault) in
      (ended_early told, ends_early told (inr (file, found, inl (fault, why, refl))), refl, is, refl)
  not_accepted of_file of_input (Broken breaks rules) is (file, d, found, defines, broken) =
      let told = told_of (Broken breaks rules) in
      let why : IsBroken task.syntax file told = record { definitions = d; defines = defines; breaks = breaks; listed = broken.listed; some = broken.some; status = refl; message = broken.told } in
      (ended_early told, ends_early told (inr (file, found, inr why)), refl, is, refl)
  not_accepted of_file of_input (Stopped NoMemory) is l = ([], inl refl, refl)
  not_accepted of_file of_input (Stopped ReadFailed) is l = inl (is, refl)
  not_accepted of_file of_input (Stopped WriteFailed) is l = absurd l
  not_accepted of_file of_input Answered is l = absurd l
  not_accepted of_file of_input Questions is l = absurd l
  not_accepted of_file of_input BadWords is l = absurd l
  not_accepted of_file of_input (TermRefused fault) is l = absurd l
  not_accepted of_file of_input InputLong is l = absurd l

  -- ---- a file that is accepted

  module _ (d : Definitions) (loads : Loads task.syntax (given.named name) d) where
    defines : HasDefinitions given command (Ok d)
    defines = let (file, found, gives, regular) = loads in inr (file, found, (gives, regular))

    -- the work of the mode is due
    due_by : (done : Done) → DoesMode task.mode given command d (Ok done) → IsDue given done
    due_by done does = record { result = Ok done; comes = inr (command, asks, inr (d, defines, does)); is = refl }

    begun_by : (lines : List (List ℕ)) → BeginsMode task.mode given command d lines → HasBegun given lines
    begun_by lines begun = record { command = command; definitions = d; asks = asks; defines = defines; begun = begun }

    -- ---- the file is told of

    module _ (mode : task.mode ≡ Check) (of_file of_input : Option (List ℕ)) (is : of_input ≡ Some given.input) where
      one_line : bytes_of (accepted_line d ∷ []) ≡ ended (accepted_line d)
      one_line = append-nil (ended (accepted_line d))

      pub told_of_file : (outcome : Outcome) (written : List ℕ) → IsChecked d outcome written → Leaves given of_file of_input outcome written
      told_of_file Answered written t =
          (checked d, due_by (checked d) (subst (λ m. DoesMode m given command d (Ok (checked d))) (sym mode) refl), refl, is, t ∙ sym one_line)
      told_of_file (Stopped WriteFailed) written t =
          (accepted_line d ∷ [], inr (begun_by (accepted_line d ∷ []) (subst (λ m. BeginsMode m given command d (accepted_line d ∷ [])) (sym mode) ([], sym (append-nil (accepted_line d ∷ []))))), subst (IsFront written) (sym one_line) t)
      told_of_file (Stopped NoMemory) written t = ([], inl refl, t)
      told_of_file (Stopped ReadFailed) written t = absurd t
      told_of_file Questions written t = absurd t
      told_of_file BadWords written t = absurd t
      told_of_file (FileRefused fault) written t = absurd t
      told_of_file (Broken breaks rules) written t = absurd t
      told_of_file (TermRefused fault) written t = absurd t
      told_of_file InputLong written t = absurd t

    -- ---- terms are answered

    module _ (mode : task.mode ≡ Answer) (text : List ℕ) (source : HasTerms given terms (Ok text)) where
      abbrev settings : Settings
      settings = settings_of task

      due_answers : (done : Done) → AnswersText settings d terms text done → IsDue given done
      due_answers done answers = due_by done (subst (λ m. DoesMode m given command d (Ok done)) (sym mode) (inr (text, source, answers)))

      begun_answers : (lines : List (List ℕ)) → AnswersFirst settings d text lines → HasBegun given lines
      begun_answers lines first = begun_by lines (subst (λ m. BeginsMode m given command d lines) (sym mode) (text, source, first))

-- the terms that are answered came from the input
module _ (given : Given) (task : Task) (name : List ℕ) (asks : Asks given.words task name None) (d : Definitions) (loads : Loads task.syntax (given.named name) d) (mode : task.mode ≡ Answer) (of_file of_input : Option (List ℕ)) where
  input_done : (outcome : Outcome) (written : List ℕ) → ((done : Done) × AnswersText (settings_of task) d None given.input done × (done.told ≡ told_of outcome) × IsLeft given.input done.rest of_input × (written ≡ bytes_of done.lines)) → LeavesDue given of_input outcome written
  input_done outcome written (done, answers, told, rest, is) = (done, due_answers given task name None asks d loads mode given.input refl done answers, told, rest, is)

  pub input_answered : (outcome : Outcome) (written : List ℕ) → TextLeft (settings_of task) d given.input of_input outcome written → Leaves given of_file of_input outcome written
  input_answered (Stopped NoMemory) written (lines, first, is) = (lines, inr (begun_answers given task name None asks d loads mode given.input refl lines first), is)
  input_answered (Stopped WriteFailed) written (lines, first, front) = (lines, inr (begun_answers given task name None asks d loads mode given.input refl lines first), front)
  input_answered (Stopped ReadFailed) written cut = inr (record {
    command = record { task = task; file = name; terms = None };
    definitions = d;
    text = given.input;
    asks = record { asks = asks; answers = mode; defines = defines given task name None asks d loads; source = refl };
    cut = cut;
    input = tt;
  })
  input_answered Answered written t = input_done Answered written t
  input_answered Questions written t = input_done Questions written t
  input_answered (TermRefused fault) written t = input_done (TermRefused fault) written t
  input_answered InputLong written t = input_done InputLong written t
  input_answered BadWords written t = input_done BadWords written t
  input_answered (FileRefused fault) written t = input_done (FileRefused fault) written t
  input_answered (Broken breaks rules) written t = input_done (Broken breaks rules) written t

-- they came from a named file
module _ (given : Given) (task : Task) (name terms : List ℕ) (asks : Asks given.words task name (Some terms)) (d : Definitions) (loads : Loads task.syntax (given.named name) d) (mode : task.mode ≡ Answer) (of_file of_input : Option (List ℕ)) (is : of_input ≡ Some given.input) where
  -- the input is then as it was
  untouched_done : (text : List ℕ) (done : Done) → AnswersText (settings_of task) d None text done → AnswersText (settings_of task) d (Some terms) text (record done { rest = untouched })
  untouched_done text done a = record { terms = a.terms; end = a.end; read = a.read; fit = a.fit; told = a.told; rest = refl }

  file_done : (text : List ℕ) → given.named terms ≡ Some text → (outcome : Outcome) (written : List ℕ) → ((done : Done) × AnswersText (settings_of task) d None text done × (done.told ≡ told_of outcome) × IsLeft text done.rest of_file × (written ≡ bytes_of done.lines)) → LeavesDue given of_input outcome written
  file_done text found outcome written (done, answers, told, rest, bytes) =
      (record done { rest = untouched }, due_answers given task name (Some terms) asks d loads mode text found (record done { rest = untouched }) (untouched_done text done answers), told, is, bytes)

  text_answered : (text : List ℕ) → given.named terms ≡ Some text → (outcome : Outcome) (written : List ℕ) → TextLeft (settings_of task) d text of_file outcome written → Leaves given of_file of_input outcome written
  text_answered text found (Stopped NoMemory) written (lines, first, bytes) = (lines, inr (begun_answers given task name (Some terms) asks d loads mode text found lines first), bytes)
  text_answered text found (Stopped WriteFailed) written (lines, first, front) = (lines, inr (begun_answers given task name (Some terms) asks d loads mode text found lines first), front)
  text_answered text found (Stopped ReadFailed) written cut = inr (record {
    command = record { task = task; file = name; terms = Some terms };
    definitions = d;
    text = text;
    asks = record { asks = asks; answers = mode; defines = defines given task name (Some terms) asks d loads; source = found };
    cut = cut;
    input = is;
  })
  text_answered text found Answered written t = file_done text found Answered written t
  text_answered text found Questions written t = file_done text found Questions written t
  text_answered text found (TermRefused fault) written t = file_done text found (TermRefused fault) written t
  text_answered text found InputLong written t = file_done text found InputLong written t
  text_answered text found BadWords written t = file_done text found BadWords written t
  text_answered text found (FileRefused fault) written t = file_done text found (FileRefused fault) written t
  text_answered text found (Broken breaks rules) written t = file_done text found (Broken breaks rules) written t

  -- a run that could not read the terms
  not_read : (outcome : Outcome) (written : List ℕ) → (outcome ≡ Stopped ReadFailed) × (written ≡ []) → Leaves given of_file of_input outcome written
  not_read outcome written (failed, none) = subst (λ o. Leaves given of_file of_input o written) (sym failed) (inl (is, none))

  pub file_answered : (outcome : Outcome) (written : List ℕ) → FileLeft (settings_of task) d (given.named terms) of_file outcome written → Leaves given of_file of_input outcome written
  file_answered outcome written l = by_found (given.named terms) refl l
    where
      by_found : (found : Option (List ℕ)) → given.named terms ≡ found → FileLeft (settings_of task) d found of_file outcome written → Leaves given of_file of_input outcome written
      by_found (Some text) found (inl t) = text_answered text found outcome written t
      by_found (Some text) found (inr none) = not_read outcome written none
      by_found None found none = not_read outcome written none
