use Rattle.regularity.specs.Looking.{ListsBefore}
use Rattle.sequentiality.specs.Violations.{IsNotSequential}
use Rattle.sequentiality.proofs.order.push_breaks_at.Given as goal

abbrev pub invariant-loop-second : goal.invariant-loop-second
invariant-loop-second l = ListsBefore (IsNotSequential l.rules) 5 l.first l.place l.second l.found
