use Rattle.std.proofs.Common.{ℕ, ◌<◌, get_or}
use Rattle.eq_base.specs.declared.rules.Equation.{Equation}
use Rattle.regularity.specs.WellFormed.{IsWellFormedBy}
use Rattle.regularity.proofs.well_formed.are_well_formed.Given as goal

abbrev pub invariant-loop-number : goal.invariant-loop-number
invariant-loop-number l = (k : ℕ) (e : Equation) → k < l.number → IsWellFormedBy l.arities (get_or l.rules.equations k e)
