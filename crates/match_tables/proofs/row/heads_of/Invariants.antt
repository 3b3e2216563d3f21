use Rattle.std.proofs.Common.{take}
use Rattle.match_tables.proofs.Naming.{EachOf, NamesIn}
use Rattle.match_tables.proofs.row.heads_of.Given as goal

abbrev pub invariant-loop-item : goal.invariant-loop-item
invariant-loop-item l = EachOf (NamesIn l.rules l.heads.keys) (take l.item-index l.items)
