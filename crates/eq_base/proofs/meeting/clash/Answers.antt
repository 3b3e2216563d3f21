use Rattle.eq_base.specs.Meeting.{in_class_of}
use Rattle.eq_base.proofs.Clashing.{clash_class_head, class_head_clash, clash_unshared}
use Rattle.eq_base.proofs.meeting.clash.Goals as goal

pub returns-in-Head-other : goal.returns-in-Head-other
returns-in-Head-other c =
    let g = c.in-Head-other.head in
    let class = c.in-Class.class in
    let in_class = in_class_of c.args.classes.now in
    rw (c.in-Class.is, c.in-Head-other.is)
    (clash_class_head in_class class g c.is_in_class.result c.is_in_class.ensures, class_head_clash in_class class g c.is_in_class.result c.is_in_class.ensures)

pub returns-in-Class-other : goal.returns-in-Class-other
returns-in-Class-other c =
    rw (c.in-Class.is, c.in-Class-other.is)
    (clash_unshared c.args.classes.now c.in-Class.class c.in-Class-other.other_class c.share_head.result c.share_head.ensures)
