use Rattle.std.proofs.Common.{◌-◌, ◌+◌, ◌<◌, ◌∙◌, sym, ap, subst, rules}
use Rattle.std.specs.Prelude.{length}
use Rattle.eq_base.specs.ClassLists.{members_of}
use Rattle.eq_base.proofs.ClassMembers.{derived_decides, any_same, not_tells, keys-there, set-there, keys-kept, keys-added}
use Rattle.eq_base.specs.contracts.head.HeadPartialEq.TheImpl.{eq-value}
use Rattle.eq_base.proofs.classes.Classes.add.Goals as goal

pub returns-in_err-added-clause-err : goal.returns-in_err-added-clause-err
returns-in_err-added-clause-err c =
    let sets = c.self.inside.sets.items in
    let kept = keys-kept (λ set. set.keys) sets (c.args.class - 4) c.index_mut.result.now c.insert.new.self c.in_err-added.ensures.err c.index_mut.ensures.value ∙ c.self.view_is in
    search rules

pub returns-clause-fresh : goal.returns-clause-fresh
returns-clause-fresh c =
    let sets = c.self.inside.sets.items in
    let there = set-there (λ set. set.keys) sets c.args.class c.requires.first (subst (λ l. c.args.class < 4 + length l) (sym c.self.view_is) c.requires.known) in
    let members = ap (λ classes. members_of classes c.args.class) (sym c.self.view_is) ∙ keys-there (λ set. set.keys) sets (c.args.class - 4) c.index_mut.result.now there c.index_mut.ensures.value in
    rw (c.in_ok-added.ensures.added, members) (not_tells _ (any_same eq-value.it derived_decides c.index_mut.result.now.keys c.args.head))

pub returns-clause-ok : goal.returns-clause-ok
returns-clause-ok c =
    let sets = c.self.inside.sets.items in
    let there = set-there (λ set. set.keys) sets c.args.class c.requires.first (subst (λ l. c.args.class < 4 + length l) (sym c.self.view_is) c.requires.known) in
    rw (c.in_ok-added.ensures.added, ← c.self.view_is)
    (keys-added (λ set. set.keys) sets (c.args.class - 4) c.index_mut.result.now c.insert.new.self _ c.args.head there c.index_mut.ensures.value c.in_ok-added.ensures.keys)
