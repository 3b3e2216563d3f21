use Rattle.std.proofs.Common.{refl}
use Rattle.graph_tests.specs.AdditionStores.{zero_left, first_variable}
use Rattle.graph_tests.proofs.AdditionSteps.{one_pushed, three_pushed, finished, equation_same}
use Rattle.graph_tests.proofs.stores.zero_equation.Goals as goal

pub returns : goal.returns
returns c =
    equation_same c.finish.result zero_left c.finish-2.result first_variable 1
    (finished c.finish.result zero_left _ _ c.finish.ensures (three_pushed _ _ _ _ _ _ _ c.new-left.ensures c.in_ok-push_cell.ensures.ok c.in_ok-push_cell-2.ensures.ok c.in_ok-push_cell-3.ensures.ok) refl)
    (finished c.finish-2.result first_variable _ _ c.finish-2.ensures (one_pushed _ _ _ c.new-right.ensures c.in_ok-push_cell-4.ensures.ok) refl)
