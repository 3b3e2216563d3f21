use Rattle.std.proofs.Common.{arith}
use Rattle.eq_base.proofs.Terms.{length-term}
use Rattle.eq_base.proofs.flat.Flat.len.Goals as goal

pub returns : goal.returns
returns c =
    omega (arith, length-term c.self.inside.nodes.items c.args.self.now c.self.view_is c.self.invariant)
