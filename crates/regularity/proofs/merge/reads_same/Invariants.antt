use Rattle.std.proofs.Common.{◌-◌}
use Rattle.eq_base.specs.Tree.{size}
use Rattle.regularity.proofs.Readings.{RightsBeside}
use Rattle.regularity.proofs.merge.reads_same.Given as goal

abbrev pub invariant-loop-at : goal.invariant-loop-at
invariant-loop-at l = RightsBeside l.left l.right l.other l.other_right l.at l.beside

abbrev pub decreases-loop-at : goal.decreases-loop-at
decreases-loop-at l = size l.right - l.at
