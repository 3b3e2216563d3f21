use Rattle.std.proofs.Common.{◌≡◌, take}
use Rattle.def_file.specs.Taking.{classes_in}
use Rattle.def_file.proofs.naming.classes.classes_of.Given as goal

abbrev pub invariant-loop-condition : goal.invariant-loop-condition
invariant-loop-condition l = l.list.items ≡ classes_in (take l.condition-index l.conditions)
