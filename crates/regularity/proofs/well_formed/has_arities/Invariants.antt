use Rattle.std.proofs.Common.{ℕ, ◌<◌}
use Rattle.eq_base.specs.Tree.{nth_subtree}
use Rattle.regularity.specs.WellFormed.{arity_by}
use Rattle.regularity.proofs.Tables.{HeadHas}
use Rattle.regularity.proofs.well_formed.has_arities.Given as goal

abbrev pub invariant-loop-at : goal.invariant-loop-at
invariant-loop-at l = (k : ℕ) → k < l.at → HeadHas (arity_by l.arities) (nth_subtree l.pattern k)
