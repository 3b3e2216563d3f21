use Rattle.regularity.specs.Looking.{ListsBefore}
use Rattle.sequentiality.specs.Violations.{IsNotSequential}
use Rattle.sequentiality.proofs.order.breaks.Given as goal

abbrev pub invariant-loop-first : goal.invariant-loop-first
invariant-loop-first l = ListsBefore (IsNotSequential l.rules) 5 l.first 0 0 l.found
