use Rattle.std.proofs.Common.{◌≡◌, ◌++◌, take, string_bytes}
use Rattle.ei_program.specs.Restrictions.{behind_dots}
use Rattle.ei_program.proofs.restrictions.place_name.Given as goal

abbrev pub invariant-loop-number : goal.invariant-loop-number
invariant-loop-number l = string_bytes l.name ≡ string_bytes l.initial.name ++ behind_dots (take l.number-index l.others)
