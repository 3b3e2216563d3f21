use Rattle.std.proofs.Common.{sym, subst}
use Rattle.term_graph.specs.Sides.{HasSides}
use Rattle.graph_tests.specs.AdditionStores.{zero_left, first_variable}
use Rattle.graph_tests.proofs.AdditionSteps.{can_third, third_leads, zero_sides}
use Rattle.graph_tests.proofs.stores.third_step.Goals as goal

pub replace-requires : goal.replace-requires
replace-requires c = can_third c.args.store.now c.args.regular.now c.requires.same c.requires.trees c.requires.room

pub returns : goal.returns
returns c = record {
  trees =
      third_leads _ _ c.requires.trees
      (c.replace.ensures.trees zero_left first_variable (subst (λ rs. HasSides rs 0 zero_left first_variable) (sym c.requires.same) zero_sides));
}
