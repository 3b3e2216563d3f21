use Rattle.std.proofs.Common.{rules, ◌≡◌, ◌+◌, ◌-◌, ◌<◌, length, subst, sym, ap, ◌∙◌, arith, get_or, drop}
use Rattle.std.proofs.lemmas.List.{get_or_default}
use Rattle.eq_base.specs.Tree.{total_size}
use Rattle.eq_base.specs.Storing.{forest_of, first_trees}
use Rattle.eq_base.specs.Preorder.{labels, IsWhole, EndsFrom, end_at}
use Rattle.eq_base.proofs.Ends.{next_below, end_at-next, arity_there, end_at-args, labels-set_end, EndsFrom-set_end, end_read, length-labels}
use Rattle.eq_base.proofs.preorder.fill_ends.Goals as goal
use Rattle.eq_base.proofs.preorder.fill_ends.Goals.{In-loop}

-- the next argument is there
next_in : (g : _) (c : In-loop g) → c.loop.next < length c.loop-at.nodes
next_in g c =
    let h : IsWhole (labels c.loop-at.nodes) = subst IsWhole (sym c.loop-at.invariant.same) c.requires in
    let there = arity_there c.loop-at.nodes (c.loop-at.at - 1) c.index-nodes-at.result h (omega arith) in
    let below = next_below (labels c.loop-at.nodes) (c.loop-at.at - 1 + 1) c.loop.counter h (omega arith) in
    omega (arith, c.loop.invariant, length-labels c.loop-at.nodes)

pub bounds-nodes-next : goal.bounds-nodes-next
bounds-nodes-next g c = next_in g c

pub bounds-nodes-next-in-loop : goal.bounds-nodes-next-in-loop
bounds-nodes-next-in-loop g c = next_in g c

pub loop-preserved : goal.loop-preserved
loop-preserved g c =
    let h : IsWhole (labels c.loop-at.nodes) = subst IsWhole (sym c.loop-at.invariant.same) c.requires in
    let there = arity_there c.loop-at.nodes (c.loop-at.at - 1) c.index-nodes-at.result h (omega arith) in
    let below = next_in g (goal.at.loop-preserved g c).In-loop in
    let read = end_read c.loop-at.nodes c.loop-at.at c.loop.next c.index-nodes-next.result c.loop-at.invariant.right (omega (arith, c.loop.invariant)) below in
    read ∙ ap (end_at (labels c.loop-at.nodes)) c.loop.invariant ∙ end_at-next (labels c.loop-at.nodes) (c.loop-at.at - 1 + 1) c.loop.counter h (omega arith)

pub offset_bounds-nodes-next : goal.offset_bounds-nodes-next
offset_bounds-nodes-next g c = let below = next_in g c in search rules

pub loop-at-preserved : goal.loop-at-preserved
loop-at-preserved g c =
    let nodes = c.loop-at.nodes in
    let at = c.loop-at.at - 1 in
    let n = c.index-nodes-at-in-loop-at.result in
    let lt : at < length nodes = omega arith in
    let e : c.loop.counter ≡ (get_or nodes at n).arity =
    omega (arith, ap (λ n. n.arity) (get_or_default nodes at c.index-nodes-at.result n lt)) in
    let args = ap (λ k. at + 1 + total_size (first_trees k (forest_of (drop (at + 1) (labels nodes))))) e in
    let again : c.loop-at.at ≡ at + 1 = omega arith in
    record {
      same = labels-set_end nodes at c.loop.next n ∙ c.loop-at.invariant.same;
      right = EndsFrom-set_end nodes at c.loop.next n lt (subst (λ k. EndsFrom k nodes) again c.loop-at.invariant.right) (c.loop.invariant ∙ args ∙ sym (end_at-args nodes at n lt));
    }
