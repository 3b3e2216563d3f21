use Rattle.std.proofs.Common.{◌+◌, ◌∙◌, ap, sym, subst}
use Rattle.std.specs.Prelude.{Contains}
use Rattle.eq_base.specs.ClassLists.{members_of}
use Rattle.symbol_table.specs.Table.{names_of}
use Rattle.symbol_table.specs.Reading.{AreLiveClasses}
use Rattle.def_file.specs.Names.{member_count}
use Rattle.def_file.proofs.MemberLists.{count-with_member, live-with_member, was_added}
use Rattle.def_file.proofs.naming.members.take_member.Goals as goal

pub returns-clause-counted : goal.returns-clause-counted
returns-clause-counted c =
    let fresh : ¬ Contains (members_of c.args.listed.now.classes c.args.class) c.in_ok-head.head = λ has. let holds = c.holds.ensures.1 has in let none = c.if-holds.false in cc in
    let is = was_added c.args.listed.now.classes c.add.new.self c.args.class c.in_ok-head.head c.in_ok-add.field-0 (c.in_ok-add.ensures.fresh.1 fresh) c.in_ok-add.ensures.ok in
    ap (λ n. n + 1) c.requires.counted ∙ sym (ap member_count is ∙ count-with_member c.args.listed.now.classes c.args.class c.in_ok-head.head c.requires.first c.requires.known)

pub returns-clause-live : goal.returns-clause-live
returns-clause-live c = λ live.
    let fresh : ¬ Contains (members_of c.args.listed.now.classes c.args.class) c.in_ok-head.head = λ has. let holds = c.holds.ensures.1 has in let none = c.if-holds.false in cc in
    let is = was_added c.args.listed.now.classes c.add.new.self c.args.class c.in_ok-head.head c.in_ok-add.field-0 (c.in_ok-add.ensures.fresh.1 fresh) c.in_ok-add.ensures.ok in
    subst (AreLiveClasses (names_of c.args.symbols.now)) (sym is) (live-with_member (names_of c.args.symbols.now) c.args.listed.now.classes live c.args.class c.in_ok-head.head c.requires.first c.requires.known c.in_ok-head.ensures.live)
