use Rattle.graph_tests.proofs.AnsweredStates.{state-of}
use Rattle.graph_tests.proofs.tables.names.Goals as goal

pub read-requires : goal.read-requires
read-requires c = state-of c.args.tables.now c.args.state c.requires
