use Rattle.std.proofs.Common.{ℕ, ◌<◌, ◌≤◌, ◌-◌}
use Rattle.eq_base.specs.Tree.{size, nth_subtree}
use Rattle.eq_base.specs.Rules.{system_of}
use Rattle.orthogonal_laws.specs.Operations.{Values}
use Rattle.orthogonal_laws.specs.Results.{AreValuesBy}
use Rattle.orthogonal_laws.specs.Orthogonal.{IsWellFormedSystem, IsOrthogonal}
use Rattle.orthogonal_laws.specs.Strategy.{HasNoDemandedRedex}
use Rattle.orthogonal_laws.proofs.Resting.{IsResting}
use Rattle.orthogonal_laws.proofs.next.next_by_number.Given as goal

abbrev pub invariant-loop-at : goal.invariant-loop-at
invariant-loop-at l = record {
  each : (values : Values) → AreValuesBy l.symbols values → (k : ℕ) → k < l.at → HasNoDemandedRedex (system_of values l.rules) (nth_subtree l.term k);
  order : l.way ≤ l.last;
  rests : l.at ≤ l.way → l.way < size l.term → (values : Values) → AreValuesBy l.symbols values → (w : IsWellFormedSystem (system_of values l.rules)) (o : IsOrthogonal (system_of values l.rules)) → IsResting values l.rules w o (nth_subtree l.term l.way) (l.last - l.way);
}
