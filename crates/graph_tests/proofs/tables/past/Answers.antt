use Rattle.graph_tests.proofs.AnsweredStates.{state-of, skip-known}
use Rattle.graph_tests.proofs.tables.past.Goals as goal

pub skip-requires : goal.skip-requires
skip-requires c = state-of c.args.tables.now c.args.state c.requires

pub returns : goal.returns
returns c = skip-known c.args.tables.now c.args.state c.requires c.skip.result (c.skip.ensures c.requires.some.rules c.requires.some.are c.requires.items c.requires.stands)
