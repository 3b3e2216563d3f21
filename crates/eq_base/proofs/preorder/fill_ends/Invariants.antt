use Rattle.std.proofs.Common.{◌≡◌, ◌+◌, drop}
use Rattle.eq_base.specs.Tree.{total_size}
use Rattle.eq_base.specs.Storing.{forest_of, first_trees}
use Rattle.eq_base.specs.Preorder.{labels, EndsFrom}
use Rattle.eq_base.proofs.preorder.fill_ends.Given as goal

abbrev pub invariant-loop : goal.invariant-loop
invariant-loop g l = l.next ≡ l.at + 1 + total_size (first_trees l.counter (forest_of (drop (l.at + 1) (labels l.nodes))))

abbrev pub invariant-loop-at : goal.invariant-loop-at
invariant-loop-at g l = record { same : labels l.nodes ≡ labels l.fn.nodes; right : EndsFrom l.at l.nodes }
