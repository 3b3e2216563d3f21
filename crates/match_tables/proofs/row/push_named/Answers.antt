use Rattle.std.proofs.Common.{arith, sym, subst}
use Rattle.eq_base.specs.Cells.{kind_of}
use Rattle.match_tables.specs.Rows.{HasNamed}
use Rattle.match_tables.proofs.Inserted.{members-named}
use Rattle.match_tables.proofs.row.push_named.Goals as goal

pub returns-in_ok-push_members-in-Class-clause-named : goal.returns-in_ok-push_members-in-Class-clause-named
returns-in_ok-push_members-in-Class-clause-named c =
    subst (λ code. HasNamed c.args.classes.now (kind_of code) c.push_members.new.heads.keys) (sym c.in-Class.is)
    (members-named c.args.classes.now c.in-Class.field-0 c.push_members.new.heads.keys c.in-Class.class (omega (arith, c.if-class-ge-FIRST_CLASS.true)) c.in_ok-push_members-in-Class.ensures.all)
