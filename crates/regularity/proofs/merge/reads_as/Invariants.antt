use Rattle.std.proofs.Common.{◌-◌}
use Rattle.eq_base.specs.Tree.{size, nth_subtree}
use Rattle.regularity.proofs.Readings.{ReadsBeside}
use Rattle.regularity.proofs.merge.reads_as.Given as goal

abbrev pub invariant-loop-i : goal.invariant-loop-i
invariant-loop-i l = ReadsBeside l.left l.other (nth_subtree l.right l.at) (nth_subtree l.left l.part.at) l.part.name l.i l.k

abbrev pub decreases-loop-i : goal.decreases-loop-i
decreases-loop-i l = size (nth_subtree l.right l.at) - l.i
