use Rattle.std.proofs.Common.{sym, subst}
use Rattle.term_graph.specs.Sides.{HasSides}
use Rattle.graph_tests.specs.AdditionStores.{successor_left, successor_right}
use Rattle.graph_tests.proofs.AdditionSteps.{can_second, second_leads, successor_sides}
use Rattle.graph_tests.proofs.stores.second_step.Goals as goal

pub replace-requires : goal.replace-requires
replace-requires c = can_second c.args.store.now c.args.regular.now c.requires.same c.requires.trees c.requires.room

pub returns-clause-trees : goal.returns-clause-trees
returns-clause-trees c =
    second_leads _ _ c.requires.trees
    (c.replace.ensures.trees successor_left successor_right (subst (λ rs. HasSides rs 1 successor_left successor_right) (sym c.requires.same) successor_sides))

pub returns-clause-spare : goal.returns-clause-spare
returns-clause-spare c = c.replace.ensures.spare successor_left successor_right (subst (λ rs. HasSides rs 1 successor_left successor_right) (sym c.requires.same) successor_sides)
