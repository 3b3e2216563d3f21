use Rattle.std.proofs.Common.{take}
use Rattle.match_tables.proofs.Moved.{MovedFrom}
use Rattle.match_tables.proofs.further.further.Given as goal

abbrev pub invariant-loop-item : goal.invariant-loop-item
invariant-loop-item l = MovedFrom l.rules l.step (take l.item-index l.items) l.next.items
