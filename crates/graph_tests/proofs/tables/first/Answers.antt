use Rattle.std.proofs.Common.{[]}
use Rattle.graph_tests.proofs.tables.first.Goals as goal

pub returns : goal.returns
returns c = record { some = c.requires; items = []; stands = c.start.ensures c.requires.rules c.requires.are }
