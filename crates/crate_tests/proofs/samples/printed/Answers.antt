use Rattle.eq_base.proofs.Numbers.{has_node}
use Rattle.crate_tests.proofs.samples.printed.Goals as goal

pub write_term-requires-clause-node : goal.write_term-requires-clause-node
write_term-requires-clause-node c = has_node c.args.term.now
