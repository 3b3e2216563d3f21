use Rattle.std.proofs.Common.{◌-◌}
use Rattle.eq_base.specs.Tree.{size, nth_subtree}
use Rattle.orthogonal_laws.proofs.Pushing.{IsPushing}
use Rattle.orthogonal_laws.proofs.replacing.push_right.Given as goal

abbrev pub invariant-loop-i : goal.invariant-loop-i
invariant-loop-i l = IsPushing l.right l.left (nth_subtree l.term l.at) l.initial.maker l.maker l.i

abbrev pub decreases-loop-i : goal.decreases-loop-i
decreases-loop-i l = size l.right - l.i
