use Rattle.std.proofs.Common.{arith}
use Rattle.eq_base.specs.Meeting.{in_symbol_class, same_head}
use Rattle.eq_base.proofs.ClassMembers.{same_head_decides, same_tests, listed_class}
use Rattle.eq_base.proofs.meeting.is_in_class.Goals as goal

pub returns-then-has_number : goal.returns-then-has_number
returns-then-has_number c =
    let listed = listed_class same_head same_head_decides in_symbol_class c.args.classes.now c.args.class c.args.head (omega arith) in
    same_tests _ _ (λ e. listed.1 (c.holds.ensures.0 e)) (λ i. c.holds.ensures.1 (listed.0 i))
