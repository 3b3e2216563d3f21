use Rattle.graph_tests.proofs.AnsweredStates.{state-of}
use Rattle.graph_tests.proofs.tables.wants.Goals as goal

pub wants-requires : goal.wants-requires
wants-requires c = state-of c.args.tables.now c.args.state c.requires
