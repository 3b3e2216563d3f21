-- The terms and patterns that stand in a text.
use Rattle.std.specs.Prelude.{ℕ, List, []}
use Rattle.eq_base.specs.Tree.{Tree, map_heads}
use Rattle.eq_base.specs.Pattern.{PatternCell, fixed}
use Rattle.eq_base.specs.ReadHead.{ReadHead}
use Rattle.term_lex.specs.Lexemes.{Lexeme, Scans, Reads}
use Rattle.symbol_table.specs.Table.{Table}
use Rattle.written_terms.specs.Notation.{Notation, IsSomeTerm, IsDotted}
use Rattle.written_terms.specs.Meaning.{Means}

-- the text from `at` to `end` is a written term and a dot, and the term means this ground term
pub record ReadsTerm (notation : Notation) (table : Table) (text : List ℕ) (at : ℕ) (term : Tree ReadHead)
    (end : ℕ) : Type 0 where
  pub written : notation.Written
  pub lexemes : List Lexeme
  pub scanned : Scans text at lexemes end
  pub spelled : IsDotted notation written lexemes
  pub means : Means notation table [] written (map_heads fixed term)

-- the text from `at` to `end` is a written term, which takes as many lexemes as it can and means this pattern
pub record ReadsPattern (notation : Notation) (table : Table) (variables : List (List ℕ)) (text : List ℕ)
    (at : ℕ) (pattern : Tree (PatternCell ReadHead)) (end : ℕ) : Type 0 where
  pub written : notation.Written
  pub lexemes : List Lexeme
  pub reads : Reads (IsSomeTerm notation) text at lexemes end
  pub spelled : notation.IsTerm written lexemes
  pub means : Means notation table variables written pattern
