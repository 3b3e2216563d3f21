use Rattle.std.proofs.Common.{take}
use Rattle.match_tables.specs.Completing.{IsAnswered}
use Rattle.match_tables.proofs.completed.first_completed.Given as goal

abbrev pub invariant-loop-item : goal.invariant-loop-item
invariant-loop-item l = IsAnswered l.rules (take l.item-index l.items) l.step l.first
