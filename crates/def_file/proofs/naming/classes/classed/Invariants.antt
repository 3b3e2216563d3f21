use Rattle.std.proofs.Common.{◌≡◌, take, map}
use Rattle.eq_base.specs.Tree.{map_heads, cells}
use Rattle.eq_base.specs.Cells.{tree_cell}
use Rattle.def_file.specs.Definitions.{classed}
use Rattle.def_file.proofs.naming.classes.classed.Given as goal

abbrev pub invariant-loop-at : goal.invariant-loop-at
invariant-loop-at l = map tree_cell l.maker ≡ take l.at (cells (map_heads (classed l.classes) l.pattern))
