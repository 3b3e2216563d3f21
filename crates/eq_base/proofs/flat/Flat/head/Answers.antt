use Rattle.std.proofs.Common.{arith}
use Rattle.eq_base.proofs.Terms.{length-term, term_head}
use Rattle.eq_base.proofs.flat.Flat.head.Goals as goal

pub index-requires : goal.index-requires
index-requires c =
    omega (arith, length-term c.self.inside.nodes.items c.args.self.now c.self.view_is c.self.invariant)

pub returns : goal.returns
returns c =
    term_head c.self.inside.nodes.items c.args.self.now c.self.view_is c.self.invariant c.args.at c.index.result.now c.index.ensures c.requires
