use Rattle.std.proofs.Common.{sym, subst}
use Rattle.eq_base.specs.Meeting.{in_class_of}
use Rattle.regularity.specs.Common.{HaveCommon}
use Rattle.regularity.proofs.Listed.{nth_subtree-zero}
use Rattle.regularity.proofs.Twos.{not_true, true_of_not}
use Rattle.regularity.proofs.pairs.are_ambiguous.Goals as goal

pub returns-then-has_common : goal.returns-then-has_common
returns-then-has_common c = (
  λ differ. record {
    common = subst (λ p. HaveCommon (in_class_of c.args.classes.now) p c.args.other.now.left) (nth_subtree-zero c.args.one.now.left) (c.has_common.ensures.0 c.if-has_common.true);
    differ = λ same. not_true c.is_same_right.result differ (c.is_same_right.ensures.1 same);
  },
  λ a. true_of_not c.is_same_right.result (λ same. a.differ (c.is_same_right.ensures.0 same)),
)

pub returns-else-has_common : goal.returns-else-has_common
returns-else-has_common c = (
  λ common. let none = c.if-has_common.false in cc,
  λ a. c.has_common.ensures.1 (subst (λ p. HaveCommon (in_class_of c.args.classes.now) p c.args.other.now.left) (sym (nth_subtree-zero c.args.one.now.left)) a.common),
)

pub is_same_right-requires-clause-common : goal.is_same_right-requires-clause-common
is_same_right-requires-clause-common c = subst (λ p. HaveCommon (in_class_of c.args.classes.now) p c.args.other.now.left) (nth_subtree-zero c.args.one.now.left) (c.has_common.ensures.0 c.if-has_common.true)
