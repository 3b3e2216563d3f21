use Rattle.std.proofs.Common.{◌-◌}
use Rattle.eq_base.specs.Tree.{size}
use Rattle.eq_base.specs.Meeting.{in_class_of}
use Rattle.regularity.proofs.Scan.{IsScannedAt}
use Rattle.sequentiality.proofs.Agreeing.{Agree}
use Rattle.sequentiality.proofs.comparison.compare.Given as goal

abbrev pub invariant-loop-beside : goal.invariant-loop-beside
invariant-loop-beside l = IsScannedAt l.left l.place l.other (Agree (in_class_of l.classes)) l.at l.beside

abbrev pub decreases-loop-beside : goal.decreases-loop-beside
decreases-loop-beside l = size l.other - l.beside
