use Rattle.std.proofs.Common.{ℕ, ◌<◌, ◌≤◌}
use Rattle.regularity.specs.Occurrences.{OccursAt}
use Rattle.regularity.proofs.merge.first_occurrence.Given as goal

abbrev pub invariant-loop-at : goal.invariant-loop-at
invariant-loop-at l = (k : ℕ) → l.from ≤ k → k < l.at → OccursAt l.pattern k l.variable → ⊥
