use Rattle.std.proofs.Common.{take}
use Rattle.term_graph.specs.Shapes.{references}
use Rattle.term_graph.specs.Contents.{shape_of}
use Rattle.term_graph.specs.Sizes.{AreKnown}
use Rattle.term_graph.proofs.sizing.next_unknown.Given as goal

abbrev pub invariant-loop-k : goal.invariant-loop-k
invariant-loop-k l = AreKnown l.sizes (take l.k (references (shape_of l.args l.content)))
