use Rattle.std.proofs.Common.{◌≡◌, take, map}
use Rattle.def_file.specs.Taking.{qualifier_of}
use Rattle.def_file.proofs.naming.classes.qualifiers.Given as goal

abbrev pub invariant-loop-condition : goal.invariant-loop-condition
invariant-loop-condition l = l.list.items ≡ map (qualifier_of l.classes) (take l.condition-index l.conditions)
