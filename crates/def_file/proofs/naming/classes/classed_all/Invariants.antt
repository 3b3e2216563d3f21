use Rattle.std.proofs.Common.{◌≡◌, take, map}
use Rattle.eq_base.specs.Tree.{map_heads}
use Rattle.def_file.specs.Definitions.{classed}
use Rattle.def_file.proofs.naming.classes.classed_all.Given as goal

abbrev pub invariant-loop-pattern : goal.invariant-loop-pattern
invariant-loop-pattern l = l.copies.items ≡ map (map_heads (classed l.classes)) (take l.pattern-index l.patterns)
