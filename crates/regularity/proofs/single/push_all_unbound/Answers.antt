use Rattle.std.proofs.Common.{arith}
use Rattle.regularity.proofs.Singles.{of_one_done}
use Rattle.regularity.proofs.single.push_all_unbound.Goals as goal

pub returns : goal.returns
returns c = of_one_done c.args.rules.now c.loop-first.found c.loop-first.first (omega arith) c.loop-first.invariant
