use Rattle.std.proofs.Common.{arith}
use Rattle.sequentiality.proofs.Sequence.{not_sequential_done}
use Rattle.sequentiality.proofs.order.breaks.Goals as goal

pub returns : goal.returns
returns c = not_sequential_done c.args.rules.now c.loop-first.found c.loop-first.first (omega arith) c.loop-first.invariant
