use Rattle.std.proofs.Common.{arith}
use Rattle.eq_base.proofs.Terms.{length-term, term_arity, term_taken}
use Rattle.eq_base.proofs.flat.Flat.arity.Goals as goal

pub index-requires : goal.index-requires
index-requires c =
    omega (arith, length-term c.self.inside.nodes.items c.args.self.now c.self.view_is c.self.invariant)

pub returns : goal.returns
returns c =
    let nodes = c.self.inside.nodes.items in
    let t = c.args.self.now in
    let n = c.index.result.now in
    record {
      value = term_arity nodes t c.self.view_is c.self.invariant c.args.at n c.index.ensures c.requires;
      taken = term_taken nodes t c.self.view_is c.self.invariant c.args.at n c.index.ensures c.requires;
    }
