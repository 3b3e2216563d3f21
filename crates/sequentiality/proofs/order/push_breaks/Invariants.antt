use Rattle.regularity.specs.Looking.{ListsBefore}
use Rattle.sequentiality.specs.Violations.{IsNotSequential}
use Rattle.sequentiality.proofs.order.push_breaks.Given as goal

abbrev pub invariant-loop-place : goal.invariant-loop-place
invariant-loop-place l = ListsBefore (IsNotSequential l.rules) 5 l.first l.place 0 l.found
