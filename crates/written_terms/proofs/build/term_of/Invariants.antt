use Rattle.std.proofs.Common.{[], map, take}
use Rattle.std.specs.List.{AllByRecursion}
use Rattle.symbol_table.specs.Table.{Keeps, names_of}
use Rattle.symbol_table.specs.Reading.{IsLiveHead}
use Rattle.written_terms.specs.Mentions.{seen}
use Rattle.written_terms.specs.Cells.{MeanCells, ground_cell}
use Rattle.written_terms.proofs.build.term_of.Given as goal

abbrev pub invariant-loop-mention : goal.invariant-loop-mention
invariant-loop-mention l = record {
  keeps : Keeps l.fn.symbols l.symbols;
  live : AllByRecursion (λ c. IsLiveHead l.symbols c.0) l.maker;
  means : MeanCells (names_of l.fn.symbols) [] (take l.mention-index (map (seen l.text) l.mentions)) (map (ground_cell l.symbols) l.maker);
}
