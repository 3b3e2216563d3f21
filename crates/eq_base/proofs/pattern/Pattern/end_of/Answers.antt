use Rattle.std.proofs.Common.{arith}
use Rattle.eq_base.proofs.Patterns.{length-pattern, cell_end}
use Rattle.eq_base.proofs.pattern.Pattern.end_of.Goals as goal

pub index-requires : goal.index-requires
index-requires c =
    omega (arith, length-pattern c.self.inside.nodes.items c.args.self.now c.self.view_is c.self.invariant)

pub returns : goal.returns
returns c =
    cell_end c.self.inside.nodes.items c.args.self.now c.self.view_is c.self.invariant c.args.at c.index.result.now c.index.ensures c.requires
