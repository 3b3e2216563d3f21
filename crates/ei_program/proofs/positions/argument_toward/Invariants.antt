use Rattle.std.proofs.Common.{◌≡◌, ℕ, ◌+◌, ◌-◌, ◌<◌, ◌≤◌}
use Rattle.eq_base.specs.Tree.{arity_of, size, nth_subtree}
use Rattle.eq_base.proofs.Trees.{argument_of}
use Rattle.ei_program.proofs.positions.argument_toward.Given as goal

abbrev pub invariant-loop-argument : goal.invariant-loop-argument
invariant-loop-argument l = record { i : ℕ; there : i < arity_of (nth_subtree l.pattern l.at); place : l.argument ≡ argument_of l.pattern l.at i; before : l.argument ≤ l.node; number : l.number ≡ i + 1; few : l.number ≤ l.argument }

abbrev pub decreases-loop-argument : goal.decreases-loop-argument
decreases-loop-argument l = size l.pattern - l.argument
