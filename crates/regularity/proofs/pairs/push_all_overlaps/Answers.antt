use Rattle.std.proofs.Common.{arith}
use Rattle.regularity.proofs.Twos.{of_two_done}
use Rattle.regularity.proofs.pairs.push_all_overlaps.Goals as goal

pub returns : goal.returns
returns c = of_two_done c.args.rules.now c.loop-first.found c.loop-first.first (omega arith) c.loop-first.invariant
