use Rattle.match_tables.proofs.Inserted.{insert-has, insert-keeps}
use Rattle.eq_base.proofs.ClassMembers.{derived_decides}
use Rattle.eq_base.specs.contracts.head.HeadPartialEq.TheImpl.{eq-value}
use Rattle.match_tables.proofs.row.push_head.Goals as goal

pub returns-clause-has : goal.returns-clause-has
returns-clause-has c = rw c.in_ok-insert.ensures.keys (insert-has eq-value.it derived_decides c.args.heads.now.keys c.args.head)

pub returns-clause-keeps : goal.returns-clause-keeps
returns-clause-keeps c = rw c.in_ok-insert.ensures.keys (insert-keeps eq-value.it derived_decides c.args.heads.now.keys c.args.head)
