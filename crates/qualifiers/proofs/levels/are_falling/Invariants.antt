use Rattle.std.proofs.Common.{ℕ, ◌<◌, ◌≤◌}
use Rattle.qualifiers.specs.Graphs.{Follows, level_at}
use Rattle.qualifiers.proofs.levels.are_falling.Given as goal

abbrev pub invariant-loop-place : goal.invariant-loop-place
invariant-loop-place l = (i : ℕ) → i < l.place → (j : ℕ) → Follows l.graph i j → level_at l.levels j ≤ level_at l.levels i
