use Rattle.std.proofs.Common.{◌≡◌, ℕ, ◌<◌, get_or}
use Rattle.eq_base.specs.ClassLists.{members_of}
use Rattle.eq_base.specs.declared.head.Head.{Head}
use Rattle.regularity.specs.WellFormed.{arity_by}
use Rattle.regularity.proofs.well_formed.gives_members_none.Given as goal

abbrev pub invariant-loop-number : goal.invariant-loop-number
invariant-loop-number l = (k : ℕ) (h : Head) → k < l.number → arity_by l.arities (get_or (members_of l.classes l.class) k h) ≡ 0
