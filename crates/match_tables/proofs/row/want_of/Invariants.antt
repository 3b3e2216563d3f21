use Rattle.std.proofs.Common.{take}
use Rattle.match_tables.proofs.Naming.{EachOf, IsUntested}
use Rattle.match_tables.proofs.row.want_of.Given as goal

abbrev pub invariant-loop-item : goal.invariant-loop-item
invariant-loop-item l = EachOf (IsUntested l.rules) (take l.item-index l.items)
