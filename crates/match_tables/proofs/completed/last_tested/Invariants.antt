use Rattle.match_tables.proofs.Lasts.{IsLastBefore}
use Rattle.match_tables.proofs.completed.last_tested.Given as goal

abbrev pub invariant-loop-at : goal.invariant-loop-at
invariant-loop-at l = IsLastBefore l.left l.at l.last
