use Rattle.match_tables.proofs.Moved.{RootsBelow}
use Rattle.match_tables.proofs.further.push_behind_roots.Given as goal

abbrev pub invariant-loop-equation : goal.invariant-loop-equation
invariant-loop-equation l = RootsBelow l.rules l.step l.equation l.next.items
