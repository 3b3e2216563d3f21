-- Words of private functions alone: when two classes have a head in common.
use Rattle.std.specs.Prelude.{ℕ, List, IsTrue, Contains}
use Rattle.eq_base.specs.ClassLists.{members_of}
use Rattle.eq_base.specs.Meeting.{in_class_of}
use Rattle.eq_base.specs.declared.head.Head.{Head}

-- some member of the class of the file belongs to the other class
abbrev pub HasMemberIn : List (List Head) → ℕ → ℕ → Type 0
HasMemberIn classes listed class =
    (h : Head) × Contains (members_of classes listed) h × IsTrue (in_class_of classes class h)

-- some head belongs to both classes
abbrev pub ShareHead : List (List Head) → ℕ → ℕ → Type 0
ShareHead classes one other =
    (h : Head) × IsTrue (in_class_of classes one h) × IsTrue (in_class_of classes other h)
