use Rattle.std.proofs.Common.{◌<◌, arith, subst, sym}
use Rattle.std.proofs.lemmas.List.{map_push}
use Rattle.eq_base.specs.Preorder.{labels}
use Rattle.eq_base.specs.Building.{missing_of}
use Rattle.eq_base.proofs.Built.{IsBegun-push}
use Rattle.eq_base.proofs.making.Begun.push.Goals as goal

pub invariant_of-self-2 : goal.invariant_of-self-2
invariant_of-self-2 g c =
    let nodes = c.self.inside.nodes.items in
    let some : 0 < missing_of (labels nodes) = subst (λ l. 0 < missing_of l) (sym c.self.view_is) c.requires in
    rw (c.in_ok-push.ensures.items, map_push _ nodes _, c.from.ensures)
    (IsBegun-push (labels nodes) c.self.inside.missing (c.args.item, c.args.arity) c.self.invariant some (omega arith))
