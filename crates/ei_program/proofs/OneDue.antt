-- One thing at most is due of a run.
use Rattle.std.proofs.Common.{◌≡◌, ℕ, ◌<◌, List, [], ◌∷◌, Option, Some, None, Ok, Err, inl, inr, refl, sym, ◌∙◌, ap, subst, arith, length}
use Rattle.regularity.specs.declared.breaks.Break.{Break}
use Rattle.regularity.specs.Listing.{Lists}
use Rattle.regularity.proofs.OneListing.{one_listing}
use Rattle.term_lex.specs.declared.syntax.Syntax.{Syntax}
use Rattle.qualifiers.specs.Expansion.{origin_in}
use Rattle.symbol_table.specs.Table.{HasDistinctNames}
use Rattle.command_line.specs.declared.task.Mode.{Mode}
use Rattle.command_line.specs.declared.task.Mode.TheVariants.{Answer, Check}
use Rattle.command_line.proofs.OneTask.{one_asked}
use Rattle.term_input.specs.Ending.{BytesEnded}
use Rattle.term_input.specs.Inputs.{End, whole, refused, long}
use Rattle.term_input.specs.TermReading.{ReadsOne}
use Rattle.term_input.proofs.Inputs.{one_read}
use Rattle.term_input.proofs.TermReaders.{term_reader}
use Rattle.ei_program.specs.declared.settings.Settings.{Settings}
use Rattle.ei_program.specs.Definitions.{Definitions, Defines, rule_in, Breaks, BreaksNone}
use Rattle.ei_program.specs.Restrictions.{broken_text}
use Rattle.ei_program.specs.Accepting.{Accepts, IsBroken}
use Rattle.ei_program.specs.Lines.{AreLines, IsLine}
use Rattle.ei_program.specs.declared.outcome.Outcome.TheVariants.{FileRefused}
use Rattle.ei_program.specs.Outcomes.{Told, told_of}
use Rattle.ei_program.specs.Phases.{HasOne, Then}
use Rattle.ei_program.specs.Done.{Done}
use Rattle.ei_program.specs.Answering.{IsTold, rest_of, AnswersText}
use Rattle.ei_program.specs.Run.{Given, Command, settings_of, HasWords, HasFile, HasTerms, HasDefinitions, IsWork, AnswersTerms, DoesMode, Comes, done_of, IsDue}
use Rattle.ei_program.proofs.OneGiving.{one_given, given_distinct, defines_or_refused, one_refusal}
use Rattle.ei_program.proofs.OneLine.{one_line, lines_one}
use Rattle.ei_program.proofs.Phases.{then_one}

-- ---- the words and the files

pub words_one : (given : Given) → HasOne (HasWords given)
words_one given (Ok r) (Ok s) p q =
    let (task, file, terms) = one_asked given.words r.task s.task r.file s.file r.terms s.terms p q in
    let same : r ≡ s = λ i. record { task = task i; file = file i; terms = terms i } in
    ap (λ c. Ok c) same
words_one given (Ok r) (Err told) p q = absurd (q.0 (r.task, r.file, r.terms, p))
words_one given (Err told) (Ok s) p q = absurd (p.0 (s.task, s.file, s.terms, q))
words_one given (Err told) (Err other) p q = ap (λ t. Err t) (p.1 ∙ sym q.1)

file_one : (given : Given) (name : List ℕ) → HasOne (HasFile given name)
file_one given name (Ok bytes) (Ok other) p q = let e : Some bytes ≡ Some other = sym p ∙ q in cc (e)
file_one given name (Ok bytes) (Err told) p q = let e : Some bytes ≡ None = sym p ∙ q.0 in cc (e)
file_one given name (Err told) (Ok bytes) p q = let e : Some bytes ≡ None = sym q ∙ p.0 in cc (e)
file_one given name (Err told) (Err other) p q = ap (λ t. Err t) (p.1 ∙ sym q.1)

pub terms_one : (given : Given) (source : Option (List ℕ)) → HasOne (HasTerms given source)
terms_one given (Some name) = file_one given name
terms_one given None = λ r s p q. p ∙ sym q

-- ---- what a definitions file comes to

module _ (syntax : Syntax) (file : List ℕ) where
  regular_or_broken : (d : Definitions) (breaks : List Break) → BreaksNone d → Lists (Breaks d) breaks → 0 < length breaks → ⊥
  regular_or_broken d [] regular listed some = omega (arith, some)
  regular_or_broken d (b ∷ bs) regular listed some = regular b (listed.only b (0, some, refl))

  accepted_or_broken : (d : Definitions) (told : Told) → Defines syntax file d → BreaksNone d → IsBroken syntax file told → ⊥
  accepted_or_broken d told defines regular b =
      let same = one_given syntax file d b.definitions defines b.defines in
      regular_or_broken b.definitions b.breaks (subst BreaksNone same regular) b.listed b.some

  one_broken : (told other : Told) → IsBroken syntax file told → IsBroken syntax file other → told ≡ other
  one_broken told other p q =
      let same = one_given syntax file p.definitions q.definitions p.defines q.defines in
      let listed = one_listing (Breaks q.definitions) p.breaks q.breaks (subst (λ (e : Definitions). Lists (Breaks e) p.breaks) same p.listed) q.listed in
      let status = p.status ∙ sym q.status in
      let message = p.message ∙ ap (λ (e : Definitions). broken_text rule_in origin_in e.equations p.breaks) same ∙ ap (broken_text rule_in origin_in q.definitions.equations) listed ∙ sym q.message in
      λ i. record { status = status i; message = message i }

  accepts_one : HasOne (Accepts syntax file)
  accepts_one (Ok d) (Ok e) p q = ap (λ x. Ok x) (one_given syntax file d e p.0 q.0)
  accepts_one (Ok d) (Err told) p (inl (fault, why, is)) = absurd (defines_or_refused syntax file d fault p.0 why)
  accepts_one (Ok d) (Err told) p (inr b) = absurd (accepted_or_broken d told p.0 p.1 b)
  accepts_one (Err told) (Ok e) (inl (fault, why, is)) q = absurd (defines_or_refused syntax file e fault q.0 why)
  accepts_one (Err told) (Ok e) (inr b) q = absurd (accepted_or_broken e told q.0 q.1 b)
  accepts_one (Err told) (Err other) (inl (fault, why, is)) (inl (fault', why', is')) =
      ap (λ t. Err t) (is ∙ ap (λ f. told_of (FileRefused f)) (one_refusal syntax file fault fault' why why') ∙ sym is')
  accepts_one (Err told) (Err other) (inl (fault, why, is)) (inr b) = absurd (defines_or_refused syntax file b.definitions fault b.defines why)
  accepts_one (Err told) (Err other) (inr b) (inl (fault, why, is)) = absurd (defines_or_refused syntax file b.definitions fault b.defines why)
  accepts_one (Err told) (Err other) (inr b) (inr b') = ap (λ t. Err t) (one_broken told other b b')

-- ---- the answering of terms

told_one : (end : End) (lines : List (List ℕ)) → HasOne (IsTold end lines)
told_one whole lines r s (inl p) (inl q) = p.1 ∙ sym q.1
told_one whole lines r s (inl p) (inr q) = absurd (q.0 p.0)
told_one whole lines r s (inr p) (inl q) = absurd (p.0 q.0)
told_one whole lines r s (inr p) (inr q) = p.1 ∙ sym q.1
told_one (refused fault) lines r s p q = p ∙ sym q
told_one long lines r s p q = p ∙ sym q

-- the answers of a text are one
pub answers_one : (settings : Settings) (d : Definitions) → HasDistinctNames d.names → (source : Option (List ℕ)) (text : List ℕ) → HasOne (AnswersText settings d source text)
answers_one settings d distinct source text r s p q =
    let read = one_read (ReadsOne settings.syntax d.names) BytesEnded (term_reader settings.syntax d.names distinct) settings.input_bytes text 0 p.terms q.terms p.end q.end p.read q.read in
    let lines : r.lines ≡ s.lines = lines_one (IsLine settings d) (one_line settings d) p.terms r.lines s.lines p.fit (subst (λ xs. AreLines (IsLine settings d) xs s.lines) (sym read.0) q.fit) in
    let moved = subst (λ end. IsTold end s.lines s.told) (sym read.1) q.told in
    let told : r.told ≡ s.told = told_one p.end r.lines r.told s.told p.told (subst (λ ls. IsTold p.end ls s.told) (sym lines) moved) in
    let rest : r.rest ≡ s.rest = p.rest ∙ ap (rest_of source) read.1 ∙ sym q.rest in
    λ i. record { lines = lines i; told = told i; rest = rest i }

-- ---- the run

module _ (given : Given) where
  pub definitions_one : (command : Command) → HasOne (HasDefinitions given command)
  definitions_one command = then_one (HasFile given command.file) (Accepts command.task.syntax) (file_one given command.file) (λ bytes _. accepts_one command.task.syntax bytes)

  -- what a file that is accepted declares is declared once
  pub defined_distinct : (command : Command) (d : Definitions) → HasDefinitions given command (Ok d) → HasDistinctNames d.names
  defined_distinct command d (inl (told, first, is)) = cc (is)
  defined_distinct command d (inr (bytes, first, accepts)) = given_distinct command.task.syntax bytes d accepts.0

  work_one : (Work : Done → Type 0) → HasOne Work → HasOne (IsWork Work)
  work_one Work one (Ok done) (Ok other) p q = ap (λ d. Ok d) (one done other p q)
  work_one Work one (Ok done) (Err told) p q = absurd q
  work_one Work one (Err told) s p q = absurd p

  mode_one : (mode : Mode) (command : Command) (d : Definitions) → HasDefinitions given command (Ok d) → HasOne (DoesMode mode given command d)
  mode_one Answer command d defined = then_one (HasTerms given command.terms) (λ text. IsWork (AnswersTerms command d text)) (terms_one given command.terms)
      (λ text _. work_one (AnswersTerms command d text) (answers_one (settings_of command.task) d (defined_distinct command d defined) command.terms text))
  mode_one Check command d defined = λ r s p q. p ∙ sym q

  comes_one : HasOne (Comes given)
  comes_one = then_one (HasWords given) (λ command. Then (HasDefinitions given command) (DoesMode command.task.mode given command)) (words_one given)
      (λ command _. then_one (HasDefinitions given command) (DoesMode command.task.mode given command) (definitions_one command) (λ d defined. mode_one command.task.mode command d defined))

  -- one thing at most is due
  pub due_one : HasOne (IsDue given)
  due_one r s p q = p.is ∙ ap done_of (comes_one p.result q.result p.comes q.comes) ∙ sym q.is
