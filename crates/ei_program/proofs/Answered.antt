-- The answering of an input, term by term: what was answered so far, and what comes of it.
use Rattle.std.proofs.Common.{◌≡◌, ℕ, ◌≤◌, Bool, true, false, List, [], ◌∷◌, ◌++◌, length, take, arith, Option, Ok, Err, inl, inr, refl, sym, ◌∙◌, ap, subst, append-nil, append_assoc}
use Rattle.std.specs.Io.KnownBytes.{Appends}
use Rattle.eq_base.specs.Tree.{Tree}
use Rattle.eq_base.specs.ReadHead.{ReadHead}
use Rattle.eq_ports.proofs.Known.{appends_both, appends_none}
use Rattle.symbol_table.specs.Table.{HasDistinctNames}
use Rattle.term_input.specs.Ending.{BytesEnded}
use Rattle.term_input.specs.Inputs as inputs
use Rattle.term_input.specs.TermReading.{ReadsOne, IsReadAs, AreFirst}
use Rattle.term_input.specs.Streams.{Held, nothing_held, IsTaken}
use Rattle.term_input.proofs.Inputs.{next_within}
use Rattle.term_input.proofs.Streams.{nothing_taken}
use Rattle.term_input.proofs.TermReaders.{term_reader}
use Rattle.term_input.proofs.Windows.{read_next, read_end, first_of_front}
use Rattle.ei_program.specs.declared.settings.Settings.{Settings}
use Rattle.ei_program.specs.Definitions.{Definitions}
use Rattle.ei_program.specs.Lines.{IsQuestion, SomeQuestion, AreLines, IsLine, ended, bytes_of}
use Rattle.ei_program.specs.Reading.{TermNext}
use Rattle.ei_program.proofs.OneLine.{lines_more}

-- whether some line begins with `?`
abbrev pub Tells : Bool → List (List ℕ) → Type 0
Tells true lines = SomeQuestion lines
Tells false lines = ¬ SomeQuestion lines

-- the bytes that were taken of an input, the terms that were read of them, and their lines, all of which are written
pub record Answered (settings : Settings) (d : Definitions) (before left : Option (List ℕ)) (held : Held) (out_old out_new : Option (List ℕ)) (any : Bool) : Type 0 where
  pub taken : List ℕ
  pub is_taken : IsTaken before left taken held
  pub limit : held.limit ≡ settings.input_bytes
  pub terms : List (Tree ReadHead)
  pub read : AreFirst settings.syntax d.names settings.input_bytes taken terms held.place
  pub within : held.place ≤ length (take settings.input_bytes taken)
  pub lines : List (List ℕ)
  pub fit : AreLines (IsLine settings d) terms lines
  pub tells : Tells any lines
  pub written : Appends out_old out_new (bytes_of lines)

-- ---- lines

pub bytes_more : (lines : List (List ℕ)) (line : List ℕ) → bytes_of (lines ++ line ∷ []) ≡ bytes_of lines ++ ended line
bytes_more [] line = append-nil (ended line)
bytes_more (l ∷ lines) line = ap (λ bs. ended l ++ bs) (bytes_more lines line) ∙ sym (append_assoc (ended l) (bytes_of lines) (ended line))

question_more : (lines : List (List ℕ)) (line : List ℕ) → IsQuestion line → SomeQuestion (lines ++ line ∷ [])
question_more [] line is = inl is
question_more (l ∷ lines) line is = inr (question_more lines line is)

some_more : (lines : List (List ℕ)) (line : List ℕ) → SomeQuestion lines → SomeQuestion (lines ++ line ∷ [])
some_more [] line some = absurd some
some_more (l ∷ lines) line (inl is) = inl is
some_more (l ∷ lines) line (inr some) = inr (some_more lines line some)

none_more : (lines : List (List ℕ)) (line : List ℕ) → ¬ SomeQuestion lines → ¬ IsQuestion line → SomeQuestion (lines ++ line ∷ []) → ⊥
none_more [] line none plain (inl is) = plain is
none_more [] line none plain (inr some) = some
none_more (l ∷ lines) line none plain (inl is) = none (inl is)
none_more (l ∷ lines) line none plain (inr some) = none_more lines line (λ s. none (inr s)) plain some

-- no line begins with `?`, and this one does not
tells_more : (any : Bool) (lines : List (List ℕ)) (line : List ℕ) → Tells any lines → ¬ IsQuestion line → Tells any (lines ++ line ∷ [])
tells_more true lines line some plain = some_more lines line some
tells_more false lines line none plain = none_more lines line none plain

-- ---- the beginning

-- nothing was answered yet
pub none_answered : (settings : Settings) (d : Definitions) (left out : Option (List ℕ)) → Answered settings d left left (nothing_held settings.input_bytes) out out false
none_answered settings d left out = record {
  taken = [];
  is_taken = nothing_taken left settings.input_bytes;
  limit = refl;
  terms = [];
  read = refl;
  within = omega arith;
  lines = [];
  fit = tt;
  tells = λ some. some;
  written = appends_none out;
}

module _ (settings : Settings) (d : Definitions) (distinct : HasDistinctNames d.names) (before mid left : Option (List ℕ)) (old new : Held) (out_old out_mid out_new : Option (List ℕ)) (any : Bool) (so_far : Answered settings d before mid old out_old out_mid any) where
  -- the first terms stay so while more is taken
  pub first_stay : (more : List ℕ) → AreFirst settings.syntax d.names settings.input_bytes (so_far.taken ++ more) so_far.terms old.place
  first_stay more = first_of_front (ReadsOne settings.syntax d.names) BytesEnded settings.input_bytes so_far.taken more (term_reader settings.syntax d.names distinct) 0 old.place so_far.terms (omega arith) so_far.read

  module _ (more : List ℕ) (is : IsTaken before left (so_far.taken ++ more) new) (limit : new.limit ≡ old.limit) (term : Tree ReadHead) (line : List ℕ)
      (next : TermNext settings.syntax d.names old.limit (so_far.taken ++ more) old.place (Ok (term, new.place))) (fits : IsLine settings d term line) where
    comes : TermNext settings.syntax d.names settings.input_bytes (so_far.taken ++ more) old.place (Ok (term, new.place))
    comes = subst (λ n. TermNext settings.syntax d.names n (so_far.taken ++ more) old.place (Ok (term, new.place))) so_far.limit next

    -- the first terms, and the next
    pub first_more : AreFirst settings.syntax d.names settings.input_bytes (so_far.taken ++ more) (so_far.terms ++ term ∷ []) new.place
    first_more = read_next (ReadsOne settings.syntax d.names) BytesEnded settings.input_bytes (so_far.taken ++ more) 0 old.place new.place so_far.terms term (first_stay more) comes

    pub lines_fit : AreLines (IsLine settings d) (so_far.terms ++ term ∷ []) (so_far.lines ++ line ∷ [])
    lines_fit = lines_more (IsLine settings d) so_far.terms so_far.lines term line so_far.fit fits

    -- one more term is answered
    pub answered_more : (told : Bool) → Tells told (so_far.lines ++ line ∷ []) → Appends out_mid out_new (ended line) → Answered settings d before left new out_old out_new told
    answered_more told tells written = record {
      taken = so_far.taken ++ more;
      is_taken = is;
      limit = limit ∙ so_far.limit;
      terms = so_far.terms ++ term ∷ [];
      read = first_more;
      within = (next_within (ReadsOne settings.syntax d.names) BytesEnded (term_reader settings.syntax d.names distinct) settings.input_bytes (so_far.taken ++ more) old.place new.place term comes).1;
      lines = so_far.lines ++ line ∷ [];
      fit = lines_fit;
      tells = tells;
      written = subst (Appends out_old out_new) (sym (bytes_more so_far.lines line)) (appends_both out_old out_mid out_new (bytes_of so_far.lines) (ended line) so_far.written written);
    }

    pub answered_by_question : IsQuestion line → Appends out_mid out_new (ended line) → Answered settings d before left new out_old out_new true
    answered_by_question is_question written = answered_more true (question_more so_far.lines line is_question) written

    pub answered_by_form : (¬ IsQuestion line) → Appends out_mid out_new (ended line) → Answered settings d before left new out_old out_new any
    answered_by_form plain written = answered_more any (tells_more any so_far.lines line so_far.tells plain) written

  -- the end comes behind the first terms
  pub read_to_end : (bytes : List ℕ) (end : inputs.End) → AreFirst settings.syntax d.names settings.input_bytes bytes so_far.terms old.place → TermNext settings.syntax d.names settings.input_bytes bytes old.place (Err end) → IsReadAs settings.syntax d.names settings.input_bytes bytes so_far.terms end
  read_to_end bytes end first next = read_end (ReadsOne settings.syntax d.names) BytesEnded settings.input_bytes bytes 0 old.place so_far.terms end first next
