use Rattle.std.proofs.Common.{ℕ, ◌<◌}
use Rattle.eq_base.specs.Tree.{nth_subtree}
use Rattle.eq_base.specs.Operations.{IsPast}
use Rattle.symbol_table.specs.Reading.{read, read_system}
use Rattle.orthogonal_laws.proofs.past.first_past.Given as goal

abbrev pub invariant-loop-at : goal.invariant-loop-at
invariant-loop-at l = (k : ℕ) → k < l.at → IsPast (read_system l.symbols l.rules) (read l.symbols (nth_subtree l.term k)) → ⊥
