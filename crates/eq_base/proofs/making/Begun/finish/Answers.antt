use Rattle.std.proofs.Common.{◌≡◌, ap, ◌∙◌, subst, sym}
use Rattle.std.proofs.lemmas.List.{with_items_is}
use Rattle.eq_base.specs.Preorder.{labels, tree_of, IsPreorder}
use Rattle.eq_base.specs.Building.{missing_of}
use Rattle.eq_base.proofs.Built.{IsWhole-finished, IsPreorder-finished}
use Rattle.eq_base.proofs.making.Begun.finish.Goals as goal
use Rattle.eq_base.proofs.making.Begun.finish.Goals.{After-deref_mut}

none_missing : (g : _) (c : After-deref_mut g) → missing_of (labels c.self.inside.nodes.items) ≡ 0
none_missing g c = subst (λ l. missing_of l ≡ 0) (sym c.self.view_is) c.requires

pub fill_ends-requires : goal.fill_ends-requires
fill_ends-requires g c =
    rw c.deref_mut.ensures.value (IsWhole-finished (labels c.self.inside.nodes.items) c.self.inside.missing c.self.invariant (none_missing g c))

pub returns-clause-whole : goal.returns-clause-whole
returns-clause-whole g c = λ default.
    let old = c.self.inside.nodes.items in
    let new = c.fill_ends.new.nodes in
    let filled = with_items_is c.self.inside.nodes new (c.fill_ends.auto.nodes ∙ c.deref_mut.ensures.len) in
    let same : labels new ≡ labels old = c.fill_ends.ensures.labels ∙ ap labels c.deref_mut.ensures.value in
    subst (λ nodes. IsPreorder (tree_of default nodes) nodes) (sym filled)
    (IsPreorder-finished default old new c.self.inside.missing c.self.invariant (none_missing g (goal.at.returns-clause-whole g c).After-deref_mut) same c.fill_ends.ensures.ends)
