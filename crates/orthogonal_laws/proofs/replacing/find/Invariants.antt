use Rattle.std.proofs.Common.{◌-◌}
use Rattle.eq_base.specs.Tree.{size}
use Rattle.orthogonal_laws.proofs.Binding.{IsFinding}
use Rattle.orthogonal_laws.proofs.replacing.find.Given as goal

abbrev pub invariant-loop-i : goal.invariant-loop-i
invariant-loop-i l = IsFinding l.left l.term l.at l.variable l.i l.node

abbrev pub decreases-loop-i : goal.decreases-loop-i
decreases-loop-i l = size l.left - l.i
