use Rattle.std.proofs.Common.{◌≡◌, ◌++◌}
use Rattle.std.specs.Prelude.{slice_range}
use Rattle.eq_base.specs.Tree.{cells}
use Rattle.orthogonal_laws.proofs.replacing.copy.Given as goal

abbrev pub invariant-loop-at : goal.invariant-loop-at
invariant-loop-at l = l.maker ++ slice_range (cells l.term) l.at l.to ≡ l.initial.maker ++ slice_range (cells l.term) l.from l.to
