use Rattle.std.proofs.Common.{ℕ, ◌+◌, ◌<◌}
use Rattle.regularity.proofs.Tables.{HaveNone}
use Rattle.regularity.proofs.well_formed.gives_constants_none.Given as goal

abbrev pub invariant-loop-number : goal.invariant-loop-number
invariant-loop-number l = (k : ℕ) → k < l.number → HaveNone l.arities l.classes (4 + k)
