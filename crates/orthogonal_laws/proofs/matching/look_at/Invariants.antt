use Rattle.std.proofs.Common.{◌-◌, ◌≤◌}
use Rattle.eq_base.specs.Tree.{nth_subtree}
use Rattle.orthogonal_laws.proofs.Failures.{FailsSoFar}
use Rattle.orthogonal_laws.proofs.matching.look_at.Given as goal

abbrev pub invariant-loop-equation : goal.invariant-loop-equation
invariant-loop-equation l = record { past : l.at ≤ l.last; failures : FailsSoFar l.rules l.equation (nth_subtree l.term l.at) (l.last - l.at) }
