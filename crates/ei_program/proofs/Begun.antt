-- What a run may have written before its end is a front of what is due.
use Rattle.std.proofs.Common.{◌≡◌, ℕ, List, [], ◌∷◌, ◌++◌, Option, Result, Ok, Err, inl, inr, refl, sym, ap, subst}
use Rattle.symbol_table.specs.Table.{HasDistinctNames, IsFront}
use Rattle.command_line.specs.declared.task.Mode.{Mode}
use Rattle.command_line.specs.declared.task.Mode.TheVariants.{Answer, Check}
use Rattle.term_input.specs.Ending.{BytesEnded}
use Rattle.term_input.specs.TermReading.{ReadsOne}
use Rattle.term_input.proofs.Inputs.{first_front}
use Rattle.term_input.proofs.TermReaders.{term_reader}
use Rattle.ei_program.specs.declared.settings.Settings.{Settings}
use Rattle.ei_program.specs.Definitions.{Definitions}
use Rattle.ei_program.specs.Lines.{AreLines, IsLine}
use Rattle.ei_program.specs.Outcomes.{Told}
use Rattle.ei_program.specs.Phases.{HasOne}
use Rattle.ei_program.specs.Done.{Done}
use Rattle.ei_program.specs.Answering.{AnswersText, AnswersFirst}
use Rattle.ei_program.specs.Run.{Given, Command, settings_of, HasDefinitions, DoesMode, Comes, done_of, IsDue, BeginsMode, HasBegun, Begins}
use Rattle.ei_program.proofs.OneLine.{one_line}
use Rattle.ei_program.proofs.OneDue.{words_one, terms_one, definitions_one, defined_distinct}

same_found : {A E : Type 0} (x y : A) → ◌≡◌ {A = Result A E} (Ok x) (Ok y) → x ≡ y
same_found x y same = cc (same)

not_ended : {A E : Type 0} (x : A) (e : E) → ◌≡◌ {A = Result A E} (Ok x) (Err e) → ⊥
not_ended x e same = cc (same)

-- lines of the first things are a front of the lines of all
lines_front : {A : Type 0} (Fits : A → List ℕ → Type 0) → ((x : A) → HasOne (Fits x)) → (xs more : List A) (ls ms : List (List ℕ)) → AreLines Fits xs ls → AreLines Fits (xs ++ more) ms → IsFront ls ms
lines_front Fits one [] more [] ms p q = (ms, refl)
lines_front Fits one [] more (l ∷ ls) ms p q = absurd p
lines_front Fits one (x ∷ xs) more [] ms p q = absurd p
lines_front Fits one (x ∷ xs) more (l ∷ ls) [] p q = absurd q
lines_front Fits one (x ∷ xs) more (l ∷ ls) (m ∷ ms) p q =
    let same = one x l m p.0 q.0 in
    let (rest, others) = lines_front Fits one xs more ls ms p.1 q.1 in
    (rest, cc (same, others))

-- what answers the first terms of a text is a front of what answers all
pub first_answered : (settings : Settings) (d : Definitions) → HasDistinctNames d.names → (source : Option (List ℕ)) (text : List ℕ) (lines : List (List ℕ)) (done : Done) → AnswersFirst settings d text lines → AnswersText settings d source text done → IsFront lines done.lines
first_answered settings d distinct source text lines done p q =
    let (more, longer) = first_front (ReadsOne settings.syntax d.names) BytesEnded (term_reader settings.syntax d.names distinct) settings.input_bytes text 0 p.last p.terms q.terms q.end p.read q.read in
    lines_front (IsLine settings d) (one_line settings d) p.terms more lines done.lines p.fit (subst (λ xs. AreLines (IsLine settings d) xs done.lines) longer q.fit)

module _ (given : Given) where
  abbrev lines_of : Result Done Told → List (List ℕ)
  lines_of r = (done_of r).lines

  mode_begun : (mode : Mode) (command : Command) (d : Definitions) → HasDistinctNames d.names → (lines : List (List ℕ)) (r : Result Done Told) → BeginsMode mode given command d lines → DoesMode mode given command d r → IsFront lines (lines_of r)
  mode_begun Answer command d distinct lines r (text, has, first) (inl (end, none, is)) = absurd (not_ended text end (terms_one given command.terms (Ok text) (Err end) has none))
  mode_begun Answer command d distinct lines (Err told) (text, has, first) (inr (text', has', work)) = absurd work
  mode_begun Answer command d distinct lines (Ok done) (text, has, first) (inr (text', has', work)) =
      let same = same_found text' text (terms_one given command.terms (Ok text') (Ok text) has' has) in
      first_answered (settings_of command.task) d distinct command.terms text' lines done (subst (λ bytes. AnswersFirst (settings_of command.task) d bytes lines) (sym same) first) work
  mode_begun Check command d distinct lines r begun is = subst (λ s. IsFront lines (lines_of s)) (sym is) begun

  comes_begun : (lines : List (List ℕ)) (r : Result Done Told) → HasBegun given lines → Comes given r → IsFront lines (lines_of r)
  comes_begun lines r b (inl (told, p, is)) = absurd (p.0 (b.command.task, b.command.file, b.command.terms, b.asks))
  comes_begun lines r b (inr (command, p, inl (told, q, is))) =
      let same = same_found command b.command (words_one given (Ok command) (Ok b.command) p b.asks) in
      absurd (not_ended b.definitions told (definitions_one given b.command (Ok b.definitions) (Err told) b.defines (subst (λ a. HasDefinitions given a (Err told)) same q)))
  comes_begun lines r b (inr (command, p, inr (d, q, does))) =
      let same = same_found command b.command (words_one given (Ok command) (Ok b.command) p b.asks) in
      let found = same_found d b.definitions (definitions_one given b.command (Ok d) (Ok b.definitions) (subst (λ a. HasDefinitions given a (Ok d)) same q) b.defines) in
      let there = subst (λ (a : Command). DoesMode a.task.mode given a d r) same does in
      mode_begun b.command.task.mode b.command b.definitions (defined_distinct given b.command b.definitions b.defines) lines r b.begun (subst (λ e. DoesMode b.command.task.mode given b.command e r) found there)

  -- a run's lines before its end are a front of those that are due
  pub begun_is_due : (lines : List (List ℕ)) (done : Done) → Begins given lines → IsDue given done → IsFront lines done.lines
  begun_is_due lines done (inl none) due = (done.lines, ap (λ ls. ls ++ done.lines) (sym none))
  begun_is_due lines done (inr begun) due = subst (λ (x : Done). IsFront lines x.lines) (sym due.is) (comes_begun lines due.result begun due.comes)
