use Rattle.std.proofs.Common.{arith}
use Rattle.eq_base.proofs.Patterns.{length-pattern}
use Rattle.eq_base.proofs.pattern.Pattern.len.Goals as goal

pub returns : goal.returns
returns c =
    omega (arith, length-pattern c.self.inside.nodes.items c.args.self.now c.self.view_is c.self.invariant)
