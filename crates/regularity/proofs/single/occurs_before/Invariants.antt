use Rattle.std.proofs.Common.{ℕ, ◌<◌}
use Rattle.regularity.specs.Occurrences.{OccursAt}
use Rattle.regularity.proofs.single.occurs_before.Given as goal

abbrev pub invariant-loop-at : goal.invariant-loop-at
invariant-loop-at l = (k : ℕ) → k < l.at → OccursAt l.pattern k l.variable → ⊥
