use Rattle.match_tables.proofs.LastCells.{AreEndsBelow}
use Rattle.match_tables.proofs.completed.ends_of.Given as goal

abbrev pub invariant-loop-equation : goal.invariant-loop-equation
invariant-loop-equation l = AreEndsBelow l.rules l.equation l.ends.items
