use Rattle.std.proofs.Common.{◌-◌, ◌≤◌}
use Rattle.symbol_table.specs.Table.{Keeps}
use Rattle.symbol_table.specs.Reading.{read, read_system, IsLiveTerm}
use Rattle.orthogonal_laws.specs.Strategy.{PlainRun}
use Rattle.orthogonal_laws.proofs.run.plain_run.Given as goal

abbrev pub invariant-loop-term : goal.invariant-loop-term
invariant-loop-term l = record {
  keeps : Keeps l.initial.symbols l.symbols;
  live : IsLiveTerm l.symbols l.term;
  run : PlainRun (read_system l.initial.symbols l.regular) (read l.initial.symbols l.initial.term) l.steps (read l.symbols l.term);
  within : l.steps ≤ l.budget;
}

abbrev pub decreases-loop-term : goal.decreases-loop-term
decreases-loop-term l = l.budget - l.steps
