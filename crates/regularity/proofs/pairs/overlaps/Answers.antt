use Rattle.std.proofs.Common.{arith}
use Rattle.regularity.proofs.Twos.{overlaps_start}
use Rattle.regularity.proofs.pairs.overlaps.Goals as goal

pub push_all_overlaps-requires-clause-before : goal.push_all_overlaps-requires-clause-before
push_all_overlaps-requires-clause-before c = overlaps_start c.args.rules.now c.loop-first.found c.loop-first.first (omega arith) c.loop-first.invariant
