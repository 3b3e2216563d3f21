use Rattle.regularity.specs.Violations.{IsOfOne}
use Rattle.regularity.specs.Looking.{ListsBefore}
use Rattle.regularity.proofs.single.push_all_unbound.Given as goal

abbrev pub invariant-loop-first : goal.invariant-loop-first
invariant-loop-first l = ListsBefore (IsOfOne l.rules) 2 l.first 0 l.first l.found
