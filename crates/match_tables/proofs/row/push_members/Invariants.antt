use Rattle.eq_base.specs.ClassLists.{members_of}
use Rattle.match_tables.specs.Rows.{HasAll}
use Rattle.match_tables.proofs.Inserted.{HasFirst}
use Rattle.match_tables.proofs.row.push_members.Given as goal

abbrev pub invariant-loop-number : goal.invariant-loop-number
invariant-loop-number l = HasAll l.initial.heads.keys l.heads.keys × HasFirst l.number (members_of l.classes l.class) l.heads.keys
