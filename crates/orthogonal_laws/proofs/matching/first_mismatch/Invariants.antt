use Rattle.std.proofs.Common.{◌-◌, ◌≤◌}
use Rattle.eq_base.specs.Tree.{size}
use Rattle.orthogonal_laws.proofs.Scan.{IsScanned}
use Rattle.orthogonal_laws.proofs.Failing.{FailsFrom}
use Rattle.orthogonal_laws.proofs.matching.first_mismatch.Given as goal

abbrev pub invariant-loop-i : goal.invariant-loop-i
invariant-loop-i l = record { past : l.at ≤ l.node; scanned : IsScanned l.classes l.left l.term l.at l.i l.node; fails : FailsFrom l.classes l.left l.term l.at l.i l.node }

abbrev pub decreases-loop-i : goal.decreases-loop-i
decreases-loop-i l = size l.left - l.i
