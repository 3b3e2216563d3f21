-- From the scan of a term to what reading it comes to, in any notation.
use Rattle.std.proofs.Common.{◌≡◌, ◌++◌, ◌∙◌, refl, map, sym, subst, inl, inr, ℕ, List, [], Ok, Err}
use Rattle.std.specs.List.{AllByRecursion}
use Rattle.eq_base.specs.Tree.{Tree, cells, map_heads}
use Rattle.eq_base.specs.Pattern.{PatternCell, fixed}
use Rattle.eq_base.specs.ReadHead.{ReadHead}
use Rattle.term_lex.specs.declared.token.TokenKind.TheVariants.{CloseRound, Dot}
use Rattle.term_lex.specs.declared.fault.Fault.{Fault}
use Rattle.term_lex.specs.Lexemes.{Lexeme, IsFirstFault, IsAnswer}
use Rattle.term_lex.specs.Parts.{One, IsKind}
use Rattle.term_lex.proofs.Readings.{scans_append}
use Rattle.term_lex.proofs.PlainAnswers.{kind_part}
use Rattle.term_lex.proofs.Telling.{then_err, then_ok, lifted}
use Rattle.symbol_table.specs.Table.{Table}
use Rattle.written_terms.specs.declared.mention.Mention.{Mention}
use Rattle.written_terms.specs.Notation.{Notation, IsSomeTerm}
use Rattle.written_terms.specs.Cells.{MeanCells}
use Rattle.written_terms.specs.Mentions.{seen, Mentioned}
use Rattle.written_terms.specs.Reading.{ReadsTerm, ReadsPattern}
use Rattle.written_terms.specs.Refusing.{IsFirstRefused, RefusesTerm}
use Rattle.written_terms.proofs.Notations.{IsLawful}
use Rattle.written_terms.proofs.Meanings.{means_written}

-- a dot is no bracket
no_bracket : (xs : List Lexeme) → One (IsKind Dot) xs → AllByRecursion (λ x. IsKind CloseRound x → ⊥) xs
no_bracket xs (dot, e, is) = subst (AllByRecursion (λ x. IsKind CloseRound x → ⊥)) (sym e) ((λ closes. let no : Dot ≡ CloseRound = sym is ∙ closes in cc), tt)

module _ (notation : Notation) (laws : IsLawful notation) (table : Table) (text : List ℕ) (at : ℕ) where
  -- a fault of the term is one of the term and its dot
  pub term_fault : (f : Fault) → IsFirstFault (notation.Misplaced (IsSomeTerm notation)) (IsSomeTerm notation) text at f → RefusesTerm notation table text at f
  term_fault f why = inl (then_err laws.telling laws.part (kind_part Dot) refl refl f why)

  module _ {mentions : List Mention} {mid : ℕ} (m : Mentioned notation text at mentions mid) where
    -- a fault where the dot should be
    pub dot_fault : (f : Fault) → IsAnswer (One (IsKind Dot)) text mid (Err f) → RefusesTerm notation table text at f
    dot_fault f why = inl (then_ok laws.telling laws.part (kind_part Dot) refl refl mid (m.lexemes, m.reads) (Err f) (lifted laws.telling no_bracket text mid (Err f) why))

    -- a pattern
    pub pattern_read : (variables : List (List ℕ)) (pattern : Tree (PatternCell ReadHead)) → MeanCells table variables (map (seen text) mentions) (cells pattern) → ReadsPattern notation table variables text at pattern mid
    pattern_read variables pattern means = record {
      written = m.written;
      lexemes = m.lexemes;
      reads = m.reads;
      spelled = m.spelled;
      means = means_written notation table variables m.written pattern (map (seen text) mentions) m.outlined means;
    }

    module _ {end : ℕ} (dot : IsAnswer (One (IsKind Dot)) text mid (Ok end)) where
      -- a term and its dot
      pub term_read : (term : Tree ReadHead) → MeanCells table [] (map (seen text) mentions) (cells (map_heads fixed term)) → ReadsTerm notation table text at term end
      term_read term means = record {
        written = m.written;
        lexemes = m.lexemes ++ dot.0;
        scanned = scans_append text at m.lexemes dot.0 mid end m.reads.scanned dot.1.scanned;
        spelled = (m.lexemes, dot.0, refl, m.spelled, dot.1.sentence);
        means = means_written notation table [] m.written (map_heads fixed term) (map (seen text) mentions) m.outlined means;
      }

      -- a lexeme of a term that means nothing
      pub term_name_fault : (f : Fault) → IsFirstRefused table [] (map (seen text) mentions) f → RefusesTerm notation table text at f
      term_name_fault f why = inr (record {
        written = m.written;
        lexemes = m.lexemes ++ dot.0;
        end = end;
        scanned = scans_append text at m.lexemes dot.0 mid end m.reads.scanned dot.1.scanned;
        spelled = (m.lexemes, dot.0, refl, m.spelled, dot.1.sentence);
        refused = subst (λ l. IsFirstRefused table [] l f) m.outlined why;
      })
