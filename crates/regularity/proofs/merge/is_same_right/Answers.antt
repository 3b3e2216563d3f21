use Rattle.eq_base.specs.Meeting.{in_class_of}
use Rattle.regularity.specs.MergedParts.{CanMerge}
use Rattle.regularity.proofs.Readings.{can_merge_back}
use Rattle.regularity.proofs.Filled.{over_left, merge_fills}
use Rattle.regularity.proofs.merge.is_same_right.Goals as goal

pub reads_same-requires-clause-right : goal.reads_same-requires-clause-right
reads_same-requires-clause-right c = over_left c.args.one.now.left c.in-Tree-Tree.right (λ at u. c.requires.one.1.bound at (rw c.in-Tree-Tree.is-0 u))

pub reads_same-requires-clause-other_right : goal.reads_same-requires-clause-other_right
reads_same-requires-clause-other_right c = over_left c.args.other.now.left c.in-Tree-Tree.other_right (λ at u. c.requires.other.1.bound at (rw c.in-Tree-Tree.is-1 u))

pub returns : goal.returns
returns c =
    let left = c.args.one.now.left in
    let other = c.args.other.now.left in
    let can : CanMerge c.args.classes.now left other = record { left_size = c.requires.one.0.left_size; other_size = c.requires.other.0.left_size; arities = c.requires.arities; common = c.requires.common } in
    let back = can_merge_back left other can in
    let θ = merge_fills (in_class_of c.args.classes.now) left other can.arities can.common c.requires.one.1.linear in
    let η = merge_fills (in_class_of c.args.classes.now) other left back.arities back.common c.requires.other.1.linear in
    rw (c.in-Tree-Tree.is-0, c.in-Tree-Tree.is-1) (
      λ answer. record { of_one = θ.0; of_other = η.0; one_merged = θ.1; other_merged = η.1; same = (c.reads_same.ensures θ.0 η.0 θ.1 η.1).0 answer },
      λ m. (c.reads_same.ensures m.of_one m.of_other m.one_merged m.other_merged).1 m.same,
    )
