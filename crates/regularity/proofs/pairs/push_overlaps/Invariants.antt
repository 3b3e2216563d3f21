use Rattle.regularity.specs.Violations.{IsOfTwo}
use Rattle.regularity.specs.Looking.{ListsBefore}
use Rattle.regularity.proofs.pairs.push_overlaps.Given as goal

abbrev pub invariant-loop-place : goal.invariant-loop-place
invariant-loop-place l = ListsBefore (IsOfTwo l.rules) 4 l.first l.place 0 l.found
