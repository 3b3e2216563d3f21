use Rattle.std.proofs.Common.{◌≡◌}
use Rattle.eq_base.proofs.Trees.{argument_of}
use Rattle.eq_base.proofs.flat.FlatTermView.arg.Given as goal

abbrev pub invariant-loop : goal.invariant-loop
invariant-loop l = l.at ≡ argument_of l.self l.node l.counter
