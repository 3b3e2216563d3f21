use Rattle.std.proofs.Common.{◌-◌, ◌+◌, ◌<◌, ◌∙◌, sym, ap, subst}
use Rattle.std.specs.Prelude.{length}
use Rattle.eq_base.specs.ClassLists.{members_of}
use Rattle.eq_base.proofs.ClassMembers.{derived_decides, any_same, keys-there, set-there}
use Rattle.eq_base.specs.contracts.head.HeadPartialEq.TheImpl.{eq-value}
use Rattle.eq_base.proofs.classes.Classes.holds.Goals as goal

pub returns : goal.returns
returns c =
    let sets = c.self.inside.sets.items in
    let there = set-there (λ set. set.keys) sets c.args.class c.requires.first (subst (λ l. c.args.class < 4 + length l) (sym c.self.view_is) c.requires.known) in
    let members = ap (λ classes. members_of classes c.args.class) (sym c.self.view_is) ∙ keys-there (λ set. set.keys) sets (c.args.class - 4) c.index.result.now there c.index.ensures in
    rw (c.contains.ensures, members) (any_same eq-value.it derived_decides c.index.result.now.keys c.args.head)
