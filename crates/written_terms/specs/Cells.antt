-- What lexemes mean, one after another.
use Rattle.std.specs.Prelude.{◌≡◌, ℕ, List, [], ◌∷◌}
use Rattle.eq_base.specs.Pattern.{PatternCell, fixed}
use Rattle.eq_base.specs.Mapping.{map_cell}
use Rattle.eq_base.specs.ReadHead.{ReadHead}
use Rattle.eq_base.specs.Cells.{kind_of, arity_in}
use Rattle.eq_base.specs.declared.head.Head.{Head}
use Rattle.eq_base.specs.declared.head.Cell.{Cell}
use Rattle.term_lex.specs.Lexemes.{Lexeme}
use Rattle.symbol_table.specs.Table.{Table}
use Rattle.symbol_table.specs.Reading.{read_head}
use Rattle.written_terms.specs.Meaning.{MeansCell}

-- each lexeme means the cell, and the numbers of arguments are the same
abbrev pub MeanCells : Table → List (List ℕ) → List (Lexeme × ℕ) → List (PatternCell ReadHead × ℕ) → Type 0
MeanCells table variables [] [] = Unit {0}
MeanCells table variables (x ∷ xs) (c ∷ cs) =
    MeansCell table variables x.0 x.1 c.0 × (c.1 ≡ x.1) × MeanCells table variables xs cs
MeanCells table variables xs cs = ⊥

-- a head of a ground term as a cell of a pattern, as it is read
abbrev pub ground_cell : Table → Head × ℕ → PatternCell ReadHead × ℕ
ground_cell table c = (fixed (read_head table c.0), c.1)

-- the cell as it is read
abbrev pub read_cell : Table → Cell → PatternCell ReadHead × ℕ
read_cell table c = (map_cell (read_head table) (kind_of c), arity_in c)
