use Rattle.regularity.specs.Violations.{IsOfTwo}
use Rattle.regularity.specs.Looking.{ListsBefore}
use Rattle.regularity.proofs.pairs.overlaps.Given as goal

abbrev pub invariant-loop-first : goal.invariant-loop-first
invariant-loop-first l = ListsBefore (IsOfTwo l.rules) 3 l.first 0 0 l.found
