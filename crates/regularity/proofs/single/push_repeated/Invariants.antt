use Rattle.regularity.specs.Violations.{IsOfOne}
use Rattle.regularity.specs.Looking.{ListsBefore}
use Rattle.regularity.proofs.single.push_repeated.Given as goal

abbrev pub invariant-loop-place : goal.invariant-loop-place
invariant-loop-place l = ListsBefore (IsOfOne l.rules) 1 l.first l.place l.first l.found
