use Rattle.regularity.specs.Violations.{IsOfTwo}
use Rattle.regularity.specs.Looking.{ListsBefore}
use Rattle.regularity.proofs.pairs.push_overlaps_at.Given as goal

abbrev pub invariant-loop-second : goal.invariant-loop-second
invariant-loop-second l = ListsBefore (IsOfTwo l.rules) 4 l.first l.place l.second l.found
