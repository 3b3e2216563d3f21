use Rattle.std.proofs.Common.{◌∙◌, ap, sym, subst}
use Rattle.symbol_table.specs.Reading.{AreLiveClasses}
use Rattle.def_file.specs.Names.{member_count}
use Rattle.def_file.proofs.MemberLists.{count-begun, live-begun}
use Rattle.def_file.proofs.naming.members.take_new_class.Goals as goal

pub returns-clause-counted : goal.returns-clause-counted
returns-clause-counted c = c.requires.counted ∙ sym (ap member_count c.in_ok-class.ensures.ok ∙ count-begun c.args.listed.now.classes)

pub returns-clause-live : goal.returns-clause-live
returns-clause-live c = λ table live. subst (AreLiveClasses table) (sym c.in_ok-class.ensures.ok) (live-begun table c.args.listed.now.classes live)
