-- The terms and patterns that stand in a text, in this notation.
use Rattle.std.specs.Prelude.{ℕ, List}
use Rattle.eq_base.specs.Tree.{Tree}
use Rattle.eq_base.specs.Pattern.{PatternCell}
use Rattle.eq_base.specs.ReadHead.{ReadHead}
use Rattle.symbol_table.specs.Table.{Table}
use Rattle.written_terms.specs.Reading as written
use Rattle.lisp_m.specs.Notation.{lisp_m}

-- the text from `at` to `end` is a written term and a dot, and the term means this ground term
abbrev pub ReadsTerm : Table → List ℕ → ℕ → Tree ReadHead → ℕ → Type 0
ReadsTerm table text at term end = written.ReadsTerm lisp_m table text at term end

-- the text from `at` to `end` is a written term, which takes as many lexemes as it can and means this pattern
abbrev pub ReadsPattern : Table → List (List ℕ) → List ℕ → ℕ → Tree (PatternCell ReadHead) → ℕ → Type 0
ReadsPattern table variables text at pattern end =
    written.ReadsPattern lisp_m table variables text at pattern end
