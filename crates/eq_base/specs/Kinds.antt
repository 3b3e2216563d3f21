-- Words of private functions and fields alone: what a pattern's vector holds of its cells.
use Rattle.std.specs.Prelude.{ℕ}
use Rattle.eq_base.specs.Pattern.{PatternCell}
use Rattle.eq_base.specs.Cells.{kind_of}
use Rattle.eq_base.specs.declared.head.Head as heads
use Rattle.eq_base.specs.declared.head.Head.TheVariants as head
use Rattle.eq_base.specs.declared.head.Cell as cells
use Rattle.eq_base.specs.declared.head.Cell.TheVariants as cell
use Rattle.eq_base.specs.declared.kind.Kind as kinds
use Rattle.eq_base.specs.declared.kind.Kind.TheVariants.{Symbol, Numeral, Atom, Text, Var, Class}

-- the cell over so many arguments
abbrev pub cell_from : kinds.Kind → ℕ → cells.Cell
cell_from (Symbol s) n = cell.Head (head.Symbol s) n
cell_from (Numeral i) n = cell.Head (head.Numeral i) n
cell_from (Atom a) n = cell.Head (head.Atom a) n
cell_from (Text t) n = cell.Head (head.Text t) n
cell_from (Var x) n = cell.Var x
cell_from (Class x class) n = cell.Class x class

-- the cell of a label
abbrev pub cell_of : kinds.Kind × ℕ → cells.Cell
cell_of l = cell_from l.0 l.1

-- what stands in the cell
abbrev pub pattern_cell : kinds.Kind → PatternCell heads.Head
pattern_cell k = kind_of (cell_from k 0)
