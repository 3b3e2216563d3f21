-- What is left of an input, and written, where its answering ends.
use Rattle.std.proofs.Common.{◌≡◌, ◌≢◌, ℕ, Bool, true, false, List, [], ◌∷◌, ◌++◌, arith, Option, Some, None, Err, inl, inr, refl, sym, ◌∙◌, ap, subst, append-nil, append_assoc}
use Rattle.std.specs.Io.KnownBytes.{Appends, Consumes, IsAtEnd}
use Rattle.eq_base.specs.Tree.{Tree}
use Rattle.eq_base.specs.ReadHead.{ReadHead}
use Rattle.eq_ports.proofs.Known.{appends_both}
use Rattle.symbol_table.specs.Table.{HasDistinctNames}
use Rattle.term_input.specs.declared.source_state.SourceState.{SourceState}
use Rattle.term_input.specs.declared.source_state.SourceState.TheVariants as states
use Rattle.term_input.specs.Ending.{BytesEnded}
use Rattle.term_input.specs.TermReading.{ReadsOne, AreFirst}
use Rattle.term_input.specs.Streams.{Held, IsTaken}
use Rattle.term_input.proofs.TermReaders.{term_reader}
use Rattle.term_input.proofs.Windows.{first_of_front}
use Rattle.ei_program.specs.declared.settings.Settings.{Settings}
use Rattle.ei_program.specs.declared.stop.Stop.TheVariants.{NoMemory, ReadFailed, WriteFailed}
use Rattle.ei_program.specs.declared.outcome.Outcome.{Outcome}
use Rattle.ei_program.specs.declared.outcome.Outcome.TheVariants.{Answered as AllAnswered, Questions, TermRefused, InputLong, Stopped}
use Rattle.ei_program.specs.declared.reading.End.{End}
use Rattle.ei_program.specs.declared.reading.End.TheVariants as ends
use Rattle.ei_program.specs.Definitions.{Definitions}
use Rattle.ei_program.specs.Lines.{ended, bytes_of}
use Rattle.ei_program.specs.Outcomes.{Told, told_of}
use Rattle.ei_program.specs.Done.{Done, IsLeft}
use Rattle.ei_program.specs.Reading.{end_of, TermNext, Settles}
use Rattle.eq_ports.specs.Moves.{AppendsFront}
use Rattle.ei_program.specs.Stepping.{Answers, IsOutcomeAt}
use Rattle.ei_program.specs.Answering.{IsTold, rest_of, AnswersText, AnswersFirst, TextLeft}
use Rattle.ei_program.specs.Run.{LeavesOn}
use Rattle.ei_program.proofs.Taken.{failed_or_not}
use Rattle.ei_program.proofs.Answered.{Answered, Tells, bytes_more, first_stay, first_more, lines_fit, read_to_end}

-- what is left behind the bytes that were taken
consumed_rest : (left : Option (List ℕ)) (input taken : List ℕ) → Consumes (Some input) left taken → (rest : List ℕ) × (left ≡ Some rest) × (input ≡ taken ++ rest)
consumed_rest None input taken c = absurd c
consumed_rest (Some rest) input taken c = (rest, refl, c)

pub known_rest : (before left : Option (List ℕ)) (input taken : List ℕ) → before ≡ Some input → Consumes before left taken → (rest : List ℕ) × (left ≡ Some rest) × (input ≡ taken ++ rest)
known_rest before left input taken is c = let C = λ (o : Option (List ℕ)). Consumes o left taken in consumed_rest left input taken (subst C is c)

-- what is told where reading ended so, of lines of which some begin with `?` or none
abbrev told_at : End → Bool → Told
told_at ends.Whole true = told_of Questions
told_at ends.Whole false = told_of AllAnswered
told_at (ends.Refused fault) any = told_of (TermRefused fault)
told_at ends.Long any = told_of InputLong

is_told : (end : End) (any : Bool) (lines : List (List ℕ)) → Tells any lines → IsTold (end_of end) lines (told_at end any)
is_told ends.Whole true lines some = inl (some, refl)
is_told ends.Whole false lines none = inr (none, refl)
is_told (ends.Refused fault) any lines tells = refl
is_told ends.Long any lines tells = refl

module _ (settings : Settings) (d : Definitions) (distinct : HasDistinctNames d.names) (before mid : Option (List ℕ)) (old : Held) (out_old out_mid : Option (List ℕ)) (any : Bool) (so_far : Answered settings d before mid old out_old out_mid any) (input : List ℕ) (known : before ≡ Some input) where
  -- the first terms of what was taken are those of the whole input
  first_in : (terms : List (Tree ReadHead)) (taken : List ℕ) (last : ℕ) (left : Option (List ℕ)) → Consumes before left taken → AreFirst settings.syntax d.names settings.input_bytes taken terms last → AreFirst settings.syntax d.names settings.input_bytes input terms last
  first_in terms taken last left consumed first =
      let (rest, leaves, parts) = known_rest before left input taken known consumed in
      subst (λ bs. AreFirst settings.syntax d.names settings.input_bytes bs terms last) (sym parts)
      (first_of_front (ReadsOne settings.syntax d.names) BytesEnded settings.input_bytes taken rest (term_reader settings.syntax d.names distinct) 0 last terms (omega arith) first)

  -- ---- no memory

  pub no_memory_left : (left out_new : Option (List ℕ)) → Appends out_mid out_new [] → LeavesOn (TextLeft settings d input left (Stopped NoMemory)) out_old out_new
  no_memory_left left out_new nothing =
      let first : AnswersFirst settings d input so_far.lines = record { terms = so_far.terms; last = old.place; read = first_in so_far.terms so_far.taken old.place mid so_far.is_taken.consumed so_far.read; fit = so_far.fit } in
      let written = subst (Appends out_old out_new) (append-nil (bytes_of so_far.lines)) (appends_both out_old out_mid out_new (bytes_of so_far.lines) [] so_far.written nothing) in
      (bytes_of so_far.lines, (so_far.lines, first, refl), written)

  module _ (left out_new : Option (List ℕ)) (new : Held) (limit : new.limit ≡ old.limit) (more : List ℕ) (is : IsTaken before left (so_far.taken ++ more) new) where
    abbrev taken : List ℕ
    taken = so_far.taken ++ more

    -- ---- a line that is broken off

    pub broken_off : (line : List ℕ) → Answers settings d old new line taken → AppendsFront out_mid out_new (ended line) → LeavesOn (TextLeft settings d input left (Stopped WriteFailed)) out_old out_new
    broken_off line a (front, back, parts, appends) =
        let read = first_more settings d distinct before mid left old new out_old out_mid out_new any so_far more is limit a.term line a.next a.is in
        let fit = lines_fit settings d distinct before mid left old new out_old out_mid out_new any so_far more is limit a.term line a.next a.is in
        let first : AnswersFirst settings d input (so_far.lines ++ line ∷ []) = record { terms = so_far.terms ++ a.term ∷ []; last = new.place; read = first_in (so_far.terms ++ a.term ∷ []) taken new.place left is.consumed read; fit = fit } in
        let all : bytes_of (so_far.lines ++ line ∷ []) ≡ (bytes_of so_far.lines ++ front) ++ back = bytes_more so_far.lines line ∙ ap (λ bs. bytes_of so_far.lines ++ bs) (sym parts) ∙ sym (append_assoc (bytes_of so_far.lines) front back) in
        (bytes_of so_far.lines ++ front, (so_far.lines ++ line ∷ [], first, (back, all)), appends_both out_old out_mid out_new (bytes_of so_far.lines) front so_far.written appends)

    -- ---- the end

    module _ (end : End) (next : TermNext settings.syntax d.names old.limit taken old.place (Err (end_of end))) (settles : Settles settings.syntax d.names old new left end taken) (nothing : Appends out_mid out_new []) where
      abbrev Next : List ℕ → Type 0
      Next bytes = TermNext settings.syntax d.names settings.input_bytes bytes old.place (Err (end_of end))

      by_limit : (bytes : List ℕ) → TermNext settings.syntax d.names old.limit bytes old.place (Err (end_of end)) → Next bytes
      by_limit bytes p = subst (λ n. TermNext settings.syntax d.names n bytes old.place (Err (end_of end))) so_far.limit p

      -- what was answered of a text with these first terms and this end
      abbrev done : Done
      done = record { lines = so_far.lines; told = told_at end any; rest = rest_of None (end_of end) }

      answers : (bytes : List ℕ) → AreFirst settings.syntax d.names settings.input_bytes bytes so_far.terms old.place → Next bytes → AnswersText settings d None bytes done
      answers bytes first p = record {
        terms = so_far.terms;
        end = end_of end;
        read = read_to_end settings d distinct before mid left old new out_old out_mid out_new any so_far bytes (end_of end) first p;
        fit = so_far.fit;
        told = is_told end any so_far.lines so_far.tells;
        rest = refl;
      }

      written : Appends out_old out_new (bytes_of so_far.lines)
      written = subst (Appends out_old out_new) (append-nil (bytes_of so_far.lines)) (appends_both out_old out_mid out_new (bytes_of so_far.lines) [] so_far.written nothing)

      -- a read failed
      pub cut_short : LeavesOn (TextLeft settings d input left (Stopped ReadFailed)) out_old out_new
      cut_short =
          let (rest, leaves, parts) = known_rest before left input taken known is.consumed in
          let first = first_stay settings d distinct before mid left old new out_old out_mid out_new any so_far more in
          (bytes_of so_far.lines, record { taken = taken; rest = rest; parts = parts; leaves = leaves; done = done; answered = answers taken first (by_limit taken next); output = refl }, written)

      -- what is left of the input
      is_left : (e : End) → end ≡ e → new.state ≢ states.Failed → (rest : List ℕ) → left ≡ Some rest → input ≡ taken ++ rest → IsLeft input (rest_of None (end_of e)) left
      is_left ends.Whole e sound rest leaves parts =
          let none : rest ≡ [] = subst IsAtEnd leaves (settles.at_end sound e) in leaves ∙ ap (λ bs. Some bs) none
      is_left (ends.Refused fault) e sound rest leaves parts = (taken, rest, parts, leaves)
      is_left ends.Long e sound rest leaves parts = (taken, rest, parts, leaves)

      -- all terms are answered
      all_answered : new.state ≢ states.Failed → (outcome : Outcome) → told_at end any ≡ told_of outcome
          → LeavesOn (λ bytes. (done : Done) × AnswersText settings d None input done × (done.told ≡ told_of outcome) × IsLeft input done.rest left × (bytes ≡ bytes_of done.lines)) out_old out_new
      all_answered sound outcome told =
          let (rest, leaves, parts) = known_rest before left input taken known is.consumed in
          let first = first_in so_far.terms taken old.place left is.consumed (first_stay settings d distinct before mid left old new out_old out_mid out_new any so_far more) in
          let p = by_limit input (subst (λ bs. TermNext settings.syntax d.names old.limit bs old.place (Err (end_of end))) (sym parts) (settles.stays sound rest leaves)) in
          (bytes_of so_far.lines, (done, answers input first p, told, is_left end refl sound rest leaves parts, refl), written)

      -- the outcome at an end, where no read failed
      abbrev OutcomeAt : End → Bool → Outcome
      OutcomeAt ends.Whole true = Questions
      OutcomeAt ends.Whole false = AllAnswered
      OutcomeAt (ends.Refused fault) b = TermRefused fault
      OutcomeAt ends.Long b = InputLong

      told_same : (e : End) (b : Bool) → told_at e b ≡ told_of (OutcomeAt e b)
      told_same ends.Whole true = refl
      told_same ends.Whole false = refl
      told_same (ends.Refused fault) b = refl
      told_same ends.Long b = refl

      sound_end : new.state ≢ states.Failed → (e : End) → end ≡ e → (b : Bool) → any ≡ b → LeavesOn (TextLeft settings d input left (OutcomeAt e b)) out_old out_new
      sound_end sound ends.Whole e true g = all_answered sound Questions (ap (λ x. told_at x any) e ∙ ap (told_at ends.Whole) g)
      sound_end sound ends.Whole e false g = all_answered sound AllAnswered (ap (λ x. told_at x any) e ∙ ap (told_at ends.Whole) g)
      sound_end sound (ends.Refused fault) e b g = all_answered sound (TermRefused fault) (ap (λ x. told_at x any) e)
      sound_end sound ends.Long e b g = all_answered sound InputLong (ap (λ x. told_at x any) e)

      sound_outcome : (state : SourceState) → state ≢ states.Failed → (e : End) (b : Bool) (outcome : Outcome) → IsOutcomeAt state e b outcome → outcome ≡ OutcomeAt e b
      sound_outcome states.Failed sound e b outcome is_outcome = absurd (sound refl)
      sound_outcome states.Open sound ends.Whole true outcome is_outcome = is_outcome
      sound_outcome states.Open sound ends.Whole false outcome is_outcome = is_outcome
      sound_outcome states.Open sound (ends.Refused fault) b outcome is_outcome = is_outcome
      sound_outcome states.Open sound ends.Long b outcome is_outcome = is_outcome
      sound_outcome states.AtEnd sound ends.Whole true outcome is_outcome = is_outcome
      sound_outcome states.AtEnd sound ends.Whole false outcome is_outcome = is_outcome
      sound_outcome states.AtEnd sound (ends.Refused fault) b outcome is_outcome = is_outcome
      sound_outcome states.AtEnd sound ends.Long b outcome is_outcome = is_outcome

      -- by the outcome
      pub ended_so : (outcome : Outcome) → IsOutcomeAt new.state end any outcome → LeavesOn (TextLeft settings d input left outcome) out_old out_new
      ended_so outcome is_outcome = elim (failed_or_not new.state) [
        | inl failed ↦ subst (λ o. LeavesOn (TextLeft settings d input left o) out_old out_new) (sym (subst (λ s. IsOutcomeAt s end any outcome) failed is_outcome)) cut_short
        | inr sound ↦ subst (λ o. LeavesOn (TextLeft settings d input left o) out_old out_new) (sym (sound_outcome new.state sound end any outcome is_outcome)) (sound_end sound end refl any refl)
      ]
