use Rattle.std.proofs.Common.{arith}
use Rattle.regularity.proofs.Singles.{unbound_start}
use Rattle.regularity.proofs.single.check_single.Goals as goal

pub push_all_unbound-requires-clause-before : goal.push_all_unbound-requires-clause-before
push_all_unbound-requires-clause-before c = unbound_start c.args.rules.now c.loop-first.found c.loop-first.first (omega arith) c.loop-first.invariant
