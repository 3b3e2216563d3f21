use Rattle.eq_base.specs.Tree.{nth_subtree}
use Rattle.eq_base.specs.Meeting.{in_class_of}
use Rattle.sequentiality.proofs.Sequence.{no_mismatch}
use Rattle.sequentiality.proofs.order.mismatches.Goals as goal

pub returns-in_default : goal.returns-in_default
returns-in_default c = (λ answer. cc, λ m. absurd (no_mismatch (in_class_of c.args.classes.now) (nth_subtree c.args.left.now c.args.place) c.args.other.now c.compare.result c.compare.ensures c.in_default.not-Mismatch m))
