use Rattle.regularity.specs.Violations.{IsOfOne}
use Rattle.regularity.specs.Looking.{ListsBefore}
use Rattle.regularity.proofs.single.check_single.Given as goal

abbrev pub invariant-loop-first : goal.invariant-loop-first
invariant-loop-first l = ListsBefore (IsOfOne l.rules) 1 l.first 0 l.first l.found
