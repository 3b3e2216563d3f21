use Rattle.match_tables.proofs.Depths.{IsCounted}
use Rattle.match_tables.proofs.completed.depth_of.Given as goal

abbrev pub invariant-loop-at : goal.invariant-loop-at
invariant-loop-at l = IsCounted l.left l.cell l.at l.depth
