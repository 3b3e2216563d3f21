use Rattle.regularity.specs.Violations.{IsOfTwo}
use Rattle.regularity.specs.Looking.{ListsBefore}
use Rattle.regularity.proofs.pairs.push_ambiguous.Given as goal

abbrev pub invariant-loop-second : goal.invariant-loop-second
invariant-loop-second l = ListsBefore (IsOfTwo l.rules) 3 l.first 0 l.second l.found
