use Rattle.std.proofs.Common.{take}
use Rattle.std.specs.Prelude.{nat_eq}
use Rattle.indexmap.specs.IndexMap.{get}
use Rattle.def_file.specs.Pairs.{AreRelated}
use Rattle.qualifiers.proofs.Edges.{HasFollowers}
use Rattle.qualifiers.proofs.graph.graph_of.Given as goal

abbrev pub invariant-loop-i : goal.invariant-loop-i
invariant-loop-i l = AreRelated (HasFollowers (get nat_eq l.places)) (take l.i l.qualifiers) l.graph.items
