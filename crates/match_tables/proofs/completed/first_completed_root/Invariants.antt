use Rattle.std.proofs.Common.{ℕ, ◌<◌}
use Rattle.match_tables.specs.Completing.{CompletesAt}
use Rattle.match_tables.proofs.completed.first_completed_root.Given as goal

abbrev pub invariant-loop-equation : goal.invariant-loop-equation
invariant-loop-equation l = (k : ℕ) → k < l.equation → CompletesAt l.rules l.step k 0 → ⊥
