use Rattle.std.proofs.Common.{◌≡◌, ◌++◌, take, map}
use Rattle.def_file.specs.Taking.{class_item}
use Rattle.def_file.proofs.naming.items.push_classes.Given as goal

abbrev pub invariant-loop-op : goal.invariant-loop-op
invariant-loop-op l = l.items.items ≡ l.initial.items.items ++ map (class_item l.number) (take l.op-index l.operations)
