use Rattle.std.proofs.Common.{arith}
use Rattle.regularity.proofs.Listed.{agree_at_part}
use Rattle.crate_tests.proofs.restrictions.compared.Goals as goal

pub compare-requires-clause-arities : goal.compare-requires-clause-arities
compare-requires-clause-arities c =
    agree_at_part c.args.rules.now c.requires 0 c.equation-one.result.now 1 c.equation-other.result.now c.equation-one.ensures c.equation-other.ensures c.args.place (omega arith)
