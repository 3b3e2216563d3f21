use Rattle.std.proofs.Common.{refl}
use Rattle.graph_tests.specs.AdditionStores.{successor_left, successor_right}
use Rattle.graph_tests.proofs.AdditionSteps.{four_pushed, finished, equation_same}
use Rattle.graph_tests.proofs.stores.successor_equation.Goals as goal

pub returns : goal.returns
returns c =
    equation_same c.finish.result successor_left c.finish-2.result successor_right 2
    (finished c.finish.result successor_left _ _ c.finish.ensures (four_pushed _ _ _ _ _ _ _ _ _ c.new-left.ensures c.in_ok-push_cell.ensures.ok c.in_ok-push_cell-2.ensures.ok c.in_ok-push_cell-3.ensures.ok c.in_ok-push_cell-4.ensures.ok) refl)
    (finished c.finish-2.result successor_right _ _ c.finish-2.ensures (four_pushed _ _ _ _ _ _ _ _ _ c.new-right.ensures c.in_ok-push_cell-5.ensures.ok c.in_ok-push_cell-6.ensures.ok c.in_ok-push_cell-7.ensures.ok c.in_ok-push_cell-8.ensures.ok) refl)
