use Rattle.graph_tests.proofs.AnsweredStates.{state-of, read-known}
use Rattle.graph_tests.proofs.tables.behind.Goals as goal

pub read-requires : goal.read-requires
read-requires c = state-of c.args.tables.now c.args.state c.requires

pub returns-in-Go : goal.returns-in-Go
returns-in-Go c = read-known c.args.tables.now c.args.state c.requires c.args.head c.in-Go.next (c.in-Go.ensures c.requires.some.rules c.requires.some.are c.requires.items c.requires.stands).0

pub returns-in-Redex : goal.returns-in-Redex
returns-in-Redex c = read-known c.args.tables.now c.args.state c.requires c.args.head c.in-Redex.next (c.in-Redex.ensures c.requires.some.rules c.requires.some.are c.requires.items c.requires.stands).0
