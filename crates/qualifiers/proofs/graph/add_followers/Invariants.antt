use Rattle.std.specs.Prelude.{nat_eq}
use Rattle.indexmap.specs.IndexMap.{get}
use Rattle.qualifiers.proofs.Occurring.{first_variables}
use Rattle.qualifiers.proofs.Edges.{Collected}
use Rattle.qualifiers.proofs.graph.add_followers.Given as goal

abbrev pub invariant-loop-at : goal.invariant-loop-at
invariant-loop-at l = Collected (get nat_eq l.places) l.initial.followers.items l.followers.items (first_variables l.pattern l.at)
