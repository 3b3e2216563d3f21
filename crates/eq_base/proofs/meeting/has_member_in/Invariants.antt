use Rattle.std.proofs.Common.{◌≡◌, ℕ, ◌<◌, IsTrue, slice_get, Some}
use Rattle.eq_base.specs.ClassLists.{members_of}
use Rattle.eq_base.specs.Meeting.{in_class_of}
use Rattle.eq_base.specs.declared.head.Head.{Head}
use Rattle.eq_base.proofs.meeting.has_member_in.Given as goal

-- no earlier member belongs to the class
abbrev pub invariant-loop-number : goal.invariant-loop-number
invariant-loop-number l =
    (k : ℕ) (h : Head) → k < l.number → slice_get (members_of l.classes l.listed) k ≡ Some h → IsTrue (in_class_of l.classes l.class h) → ⊥
