-- The print of a term is read as the term.
use Rattle.std.proofs.Common.{◌≡◌, ℕ, suc, ◌+◌, List, [], ◌∷◌, ◌++◌, map, length, drop, refl, sym, ap, subst, ◌∙◌, append_assoc, append-nil, length-append, inl, inr, arith}
use Rattle.std.proofs.lemmas.List.{map-append}
use Rattle.eq_base.specs.Tree.{Tree, Forest, node, empty, grow, count, cells, all_cells, map_heads, map_all_heads}
use Rattle.eq_base.specs.Pattern.{fixed}
use Rattle.eq_base.specs.ReadHead.{ReadHead, symbol, numeral, atom, text as string}
use Rattle.eq_base.proofs.Lists.{all_front, all_back}
use Rattle.term_lex.specs.declared.token.TokenKind.TheVariants.{OpenRound, CloseRound, Comma, Dot}
use Rattle.term_lex.specs.Lexemes.{Lexeme, Scans}
use Rattle.term_lex.proofs.Readings.{scans_append}
use Rattle.term_lex.proofs.Spellings.{IsLead, EndsWord, word_at, drop_part, word_behind, word_here, open_spells, close_spells, comma_spells, dot_spells}
use Rattle.term_lex.specs.Parts.{IsKind}
use Rattle.symbol_table.specs.Table.{Table}
use Rattle.standmath.specs.Terms.{Word, Literal, Sign, Written, Others, Constant, Value, Call, NoMore, More, spelling, terminal_of, terminal_of_kind, IsTerm}
use Rattle.standmath.specs.Terms as grammar
use Rattle.written_terms.specs.Meaning.{IsLiteral, MeansCell, MeanTrees, Means}
use Rattle.standmath.specs.Notation.{outlines, standmath}
use Rattle.written_terms.specs.Printing.{head_text}
use Rattle.standmath.specs.Printing.{print, behind_commas}
use Rattle.written_terms.specs.Readable.{IsReadable, IsReadableTerm}
use Rattle.standmath.specs.Readable.{IsReadAgain}
use Rattle.written_terms.proofs.Readables.{reads_head}
use Rattle.std.specs.List.{AllByRecursion}

-- the lexemes of an application are those of its parts
call_spelled : (x opening closing : Lexeme) (first : Written) (others : Others) (xs ys : List Lexeme) → Word x ≡ terminal_of x → Sign OpenRound ≡ terminal_of opening → Sign CloseRound ≡ terminal_of closing → IsTerm first xs → grammar.behind_commas others ≡ map terminal_of ys → IsTerm (Call x first others) (x ∷ opening ∷ (xs ++ (ys ++ closing ∷ [])))
call_spelled x opening closing first others xs ys word opens closes spelled all_spelled =
    cc (map-append terminal_of xs (ys ++ closing ∷ []), map-append terminal_of ys (closing ∷ []), append_assoc (spelling first) (grammar.behind_commas others) (Sign CloseRound ∷ []))

module _ (table : Table) where
  -- a lexeme that means a head with arguments is a word
  word_means : (x : Lexeme) (args : ℕ) (head : ReadHead) → (IsKind OpenRound x → ⊥) → MeansCell table [] x (suc args) (fixed head) → Word x ≡ terminal_of x
  word_means x args head never (inl name) = ap (λ kind. terminal_of_kind kind x) (sym name.0)
  word_means x args head never (inr (inl value)) = absurd (omega (arith, value.0))
  word_means x args head never (inr (inr list)) = absurd (never list.0)

  literal_means : (x : Lexeme) (head : ReadHead) → IsLiteral table x head → Literal x ≡ terminal_of x
  literal_means x (symbol n) literal = absurd literal
  literal_means x (atom name) literal = absurd literal
  literal_means x (numeral value) literal = ap (λ kind. terminal_of_kind kind x) (sym literal.0)
  literal_means x (string value) literal = ap (λ kind. terminal_of_kind kind x) (sym literal.0)

  -- a lexeme that means a head without arguments is a term
  constant_means : (x : Lexeme) (head : ReadHead) → (IsKind OpenRound x → ⊥) → MeansCell table [] x 0 (fixed head) → (written : Written) × IsTerm written (x ∷ []) × Means standmath table [] written (node (fixed head) empty)
  constant_means x head never (inl name) = (Constant x, ap (λ kind. terminal_of_kind kind x ∷ []) (sym name.0), (inl name, tt))
  constant_means x head never (inr (inl value)) = (Value x, ap (λ terminal. terminal ∷ []) (literal_means x head value.1), (inr (inl value), tt))
  constant_means x head never (inr (inr list)) = absurd (never list.0)

module _ (table : Table) (text : List ℕ) where
  -- the text from `at` to `end` is a written term that means this one
  record Stands (t : Tree ReadHead) (at end : ℕ) : Type 0 where
    pub written : Written
    pub lexemes : List Lexeme
    pub scanned : Scans text at lexemes end
    pub spelled : IsTerm written lexemes
    pub means : Means standmath table [] written (map_heads fixed t)

  -- the text from `at` to `end` is written terms, each behind a comma, that mean these
  record AllStand (ts : Forest ReadHead) (at end : ℕ) : Type 0 where
    pub written : Others
    pub lexemes : List Lexeme
    pub scanned : Scans text at lexemes end
    pub spelled : grammar.behind_commas written ≡ map terminal_of lexemes
    pub counted : count (outlines written) ≡ count ts
    pub means : MeanTrees table [] (outlines written) (map_all_heads fixed ts)

  ends_behind : (ts : Forest ReadHead) (follow : List ℕ) → EndsWord follow → EndsWord (behind_commas (head_text table) ts ++ follow)
  ends_behind empty follow ends = ends
  ends_behind (grow t ts) follow ends = refl

  mutual
    stands_term : (t : Tree ReadHead) (at end : ℕ) (lead follow : List ℕ) → IsLead lead → drop at text ≡ lead ++ (print table t ++ follow) → EndsWord follow → IsReadableTerm table t → end ≡ at + length lead + length (print table t) → Stands t at end
    stands_term (node head empty) at end lead follow is_lead here ends readable end_is =
        let word = head_text table head in
        let from = at + length lead in
        let whole : drop at text ≡ lead ++ (word ++ follow) = here ∙ ap (λ xs. lead ++ (xs ++ follow)) (append-nil word) in
        let reads = reads_head table head 0 follow readable.0 ends in
        let x = word_at from reads.kind word in
        let constant = constant_means table x head reads.no_bracket (reads.means from) in
        record {
          written = constant.0;
          lexemes = x ∷ [];
          scanned = (word_behind text at lead word follow reads.kind is_lead whole reads.spells, end_is ∙ ap (λ xs. from + length xs) (append-nil word));
          spelled = constant.1;
          means = constant.2;
        }
    stands_term (node head (grow t ts)) at end lead follow is_lead here ends readable end_is =
        let word = head_text table head in
        let first_print = print table t in
        let behind = behind_commas (head_text table) ts in
        let inside = first_print ++ (behind ++ 41 ∷ follow) in
        let from = at + length lead in
        let to = from + length word in
        let mid = to + 1 + length first_print in
        let last = mid + length behind in
        let regroup : (word ++ 40 ∷ ((first_print ++ behind) ++ 41 ∷ [])) ++ follow ≡ word ++ 40 ∷ inside =
        append_assoc word (40 ∷ ((first_print ++ behind) ++ 41 ∷ [])) follow ∙ ap (λ xs. word ++ 40 ∷ xs) (append_assoc (first_print ++ behind) (41 ∷ []) follow ∙ append_assoc first_print behind (41 ∷ follow)) in
        let whole : drop at text ≡ lead ++ (word ++ 40 ∷ inside) = here ∙ ap (λ xs. lead ++ xs) regroup in
        let at_open : drop to text ≡ 40 ∷ inside = drop_part text from word (40 ∷ inside) (drop_part text at lead (word ++ 40 ∷ inside) whole) in
        let at_first : drop (to + 1) text ≡ inside = drop_part text to (40 ∷ []) inside at_open in
        let at_others : drop mid text ≡ behind ++ 41 ∷ follow = drop_part text (to + 1) first_print (behind ++ 41 ∷ follow) at_first in
        let at_close : drop last text ≡ 41 ∷ follow = drop_part text mid behind (41 ∷ follow) at_others in
        let IsReadableCell = λ (c : ReadHead × ℕ). IsReadable table c.0 c.1 in
        let reads = reads_head table head (suc (count ts)) (40 ∷ inside) readable.0 refl in
        let first = stands_term t (to + 1) mid [] (behind ++ 41 ∷ follow) (inl refl) at_first (ends_behind ts (41 ∷ follow) refl) (all_front IsReadableCell (cells t) (all_cells ts) readable.1) (omega arith) in
        let others = stand_terms ts mid last (41 ∷ follow) at_others refl (all_back IsReadableCell (cells t) (all_cells ts) readable.1) refl in
        let x = word_at from reads.kind word in
        let open_sign = word_at to OpenRound (40 ∷ []) in
        let close_sign = word_at last CloseRound (41 ∷ []) in
        let end_at : end ≡ last + 1 = omega (arith, end_is, length-append word (40 ∷ ((first_print ++ behind) ++ 41 ∷ [])), length-append (first_print ++ behind) (41 ∷ []), length-append first_print behind) in
        let means = reads.means from in
        record {
          written = Call x first.written others.written;
          lexemes = x ∷ open_sign ∷ (first.lexemes ++ (others.lexemes ++ close_sign ∷ []));
          scanned = (
            word_behind text at lead word (40 ∷ inside) reads.kind is_lead whole reads.spells,
            (
              word_here text to (40 ∷ []) inside OpenRound at_open (open_spells inside),
              scans_append text (to + 1) first.lexemes (others.lexemes ++ close_sign ∷ []) mid end first.scanned
                  (scans_append text mid others.lexemes (close_sign ∷ []) last end others.scanned (word_here text last (41 ∷ []) follow CloseRound at_close (close_spells follow), end_at)),
            ),
          );
          spelled = call_spelled x open_sign close_sign first.written others.written first.lexemes others.lexemes (word_means table x (count ts) head reads.no_bracket means) refl refl first.spelled others.spelled;
          means = (subst (λ args. MeansCell table [] x (suc args) (fixed head)) (sym others.counted) means, (first.means, others.means));
        }

    stand_terms : (ts : Forest ReadHead) (at end : ℕ) (follow : List ℕ) → drop at text ≡ behind_commas (head_text table) ts ++ follow → EndsWord follow → AllByRecursion (λ c. IsReadable table c.0 c.1) (all_cells ts) → end ≡ at + length (behind_commas (head_text table) ts) → AllStand ts at end
    stand_terms empty at end follow here ends readable end_is = record { written = NoMore; lexemes = []; scanned = omega (arith, end_is); spelled = refl; counted = refl; means = tt }
    stand_terms (grow t ts) at end follow here ends readable end_is =
        let first_print = print table t in
        let behind = behind_commas (head_text table) ts in
        let mid = at + 1 + 1 + length first_print in
        let whole : drop at text ≡ 44 ∷ 32 ∷ (first_print ++ (behind ++ follow)) = here ∙ ap (λ xs. 44 ∷ 32 ∷ xs) (append_assoc first_print behind follow) in
        let at_blank : drop (at + 1) text ≡ 32 ∷ (first_print ++ (behind ++ follow)) = drop_part text at (44 ∷ []) (32 ∷ (first_print ++ (behind ++ follow))) whole in
        let at_others : drop mid text ≡ behind ++ follow = drop_part text (at + 1 + 1) first_print (behind ++ follow) (drop_part text (at + 1) (32 ∷ []) (first_print ++ (behind ++ follow)) at_blank) in
        let IsReadableCell = λ (c : ReadHead × ℕ). IsReadable table c.0 c.1 in
        let first = stands_term t (at + 1) mid (32 ∷ []) (behind ++ follow) (inr refl) at_blank (ends_behind ts follow ends) (all_front IsReadableCell (cells t) (all_cells ts) readable) refl in
        let others = stand_terms ts mid end follow at_others ends (all_back IsReadableCell (cells t) (all_cells ts) readable) (omega (arith, end_is, length-append first_print behind)) in
        let comma = word_at at Comma (44 ∷ []) in
        record {
          written = More first.written others.written;
          lexemes = comma ∷ (first.lexemes ++ others.lexemes);
          scanned = (
            word_here text at (44 ∷ []) (32 ∷ (first_print ++ (behind ++ follow))) Comma whole (comma_spells (32 ∷ (first_print ++ (behind ++ follow)))),
            scans_append text (at + 1) first.lexemes others.lexemes mid end first.scanned others.scanned,
          );
          spelled = cc (first.spelled, others.spelled, map-append terminal_of first.lexemes others.lexemes);
          counted = ap suc others.counted;
          means = (first.means, others.means);
        }

-- where a text goes on with the print and a dot, the term is read
pub print_is_read : (table : Table) (t : Tree ReadHead) → IsReadableTerm table t → IsReadAgain table t
print_is_read table t readable text rest at here =
    let whole_print = print table t in
    let last = at + length whole_print in
    let whole : drop at text ≡ whole_print ++ 46 ∷ rest = here ∙ append_assoc whole_print (46 ∷ []) rest in
    let term = stands_term table text t at last [] (46 ∷ rest) (inl refl) whole refl readable (omega arith) in
    let dot = word_at last Dot (46 ∷ []) in
    record {
      written = term.written;
      lexemes = term.lexemes ++ dot ∷ [];
      scanned = scans_append text at term.lexemes (dot ∷ []) last (last + 1) term.scanned (word_here text last (46 ∷ []) rest Dot (drop_part text at whole_print (46 ∷ rest) whole) (dot_spells rest), refl);
      spelled = (term.lexemes, dot ∷ [], refl, term.spelled, (dot, refl, refl));
      means = term.means;
    }
