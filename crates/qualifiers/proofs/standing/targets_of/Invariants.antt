use Rattle.qualifiers.specs.Standing.{AreTargets}
use Rattle.qualifiers.proofs.standing.targets_of.Given as goal

abbrev pub invariant-loop-start : goal.invariant-loop-start
invariant-loop-start l = AreTargets l.qualifiers l.targets.items
