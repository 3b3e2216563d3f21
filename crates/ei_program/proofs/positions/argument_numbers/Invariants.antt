use Rattle.std.proofs.Common.{◌-◌, ◌≡◌, ◌+◌, ◌<◌, ◌≤◌, ◌++◌, map}
use Rattle.eq_base.specs.Tree.{size, nth_subtree, nth_position}
use Rattle.ei_program.proofs.positions.argument_numbers.Given as goal

abbrev pub invariant-loop-at : goal.invariant-loop-at
invariant-loop-at l = record {
  before : l.at ≤ l.node;
  within : l.node < l.at + size (nth_subtree l.pattern l.at);
  way : map (λ i. i + 1) (nth_position l.pattern l.node) ≡ l.numbers.items ++ map (λ i. i + 1) (nth_position (nth_subtree l.pattern l.at) (l.node - l.at));
}

abbrev pub decreases-loop-at : goal.decreases-loop-at
decreases-loop-at l = l.node - l.at
