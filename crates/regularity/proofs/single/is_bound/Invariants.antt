use Rattle.std.proofs.Common.{ℕ, ◌<◌}
use Rattle.regularity.specs.Occurrences.{IsUnbound}
use Rattle.regularity.proofs.single.is_bound.Given as goal

abbrev pub invariant-loop-place : goal.invariant-loop-place
invariant-loop-place l = (k : ℕ) → k < l.place → IsUnbound l.equation.left l.right k → ⊥
