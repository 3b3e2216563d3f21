use Rattle.std.proofs.Common.{subst}
use Rattle.qualifiers.specs.Graphs.{AreFalling}
use Rattle.qualifiers.proofs.levels.levels_of.Goals as goal

pub returns-then-are_falling : goal.returns-then-are_falling
returns-then-are_falling c = subst (AreFalling c.args.graph.now) c.deref.ensures.value (c.are_falling.ensures.0 c.if-are_falling.true)
