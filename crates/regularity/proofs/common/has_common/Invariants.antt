use Rattle.std.proofs.Common.{◌-◌}
use Rattle.eq_base.specs.Tree.{size}
use Rattle.eq_base.specs.Meeting.{in_class_of}
use Rattle.regularity.specs.Facing.{DoClash}
use Rattle.regularity.proofs.Scan.{IsScannedAt}
use Rattle.regularity.proofs.common.has_common.Given as goal

abbrev pub invariant-loop-beside : goal.invariant-loop-beside
invariant-loop-beside l = IsScannedAt l.left l.place l.other (λ c d. DoClash (in_class_of l.classes) c d → ⊥) l.at l.beside

abbrev pub decreases-loop-beside : goal.decreases-loop-beside
decreases-loop-beside l = size l.other - l.beside
