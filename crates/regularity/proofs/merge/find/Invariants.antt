use Rattle.std.proofs.Common.{◌-◌}
use Rattle.eq_base.specs.Tree.{size}
use Rattle.regularity.proofs.Finding.{IsFinding}
use Rattle.regularity.proofs.merge.find.Given as goal

abbrev pub invariant-loop-at : goal.invariant-loop-at
invariant-loop-at l = IsFinding l.left l.other l.variable l.at l.beside l.name

abbrev pub decreases-loop-at : goal.decreases-loop-at
decreases-loop-at l = size l.left - l.at
