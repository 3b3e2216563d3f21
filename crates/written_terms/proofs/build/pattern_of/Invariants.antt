use Rattle.std.proofs.Common.{map, take}
use Rattle.std.specs.List.{AllByRecursion}
use Rattle.eq_base.specs.Cells.{kind_of}
use Rattle.symbol_table.specs.Table.{Keeps, names_of}
use Rattle.symbol_table.specs.Reading.{IsLiveCell}
use Rattle.written_terms.specs.Mentions.{seen}
use Rattle.written_terms.specs.Cells.{MeanCells, read_cell}
use Rattle.written_terms.proofs.build.pattern_of.Given as goal

abbrev pub invariant-loop-mention : goal.invariant-loop-mention
invariant-loop-mention l = record {
  keeps : Keeps l.fn.symbols l.symbols;
  live : AllByRecursion (λ c. IsLiveCell l.symbols (kind_of c)) l.maker;
  means : MeanCells (names_of l.fn.symbols) l.variables (take l.mention-index (map (seen l.text) l.mentions)) (map (read_cell l.symbols) l.maker);
}
