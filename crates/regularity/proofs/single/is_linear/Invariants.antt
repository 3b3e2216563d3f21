use Rattle.std.proofs.Common.{ℕ, ◌<◌}
use Rattle.regularity.specs.Occurrences.{Repeats}
use Rattle.regularity.proofs.single.is_linear.Given as goal

abbrev pub invariant-loop-place : goal.invariant-loop-place
invariant-loop-place l = (k : ℕ) → k < l.place → Repeats l.left k → ⊥
