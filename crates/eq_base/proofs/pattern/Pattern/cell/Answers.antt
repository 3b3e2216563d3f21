use Rattle.std.proofs.Common.{◌∙◌, ap, sym, subst, arith}
use Rattle.eq_base.specs.Cells.{arity_in, CellTakesArguments}
use Rattle.eq_base.proofs.Patterns.{length-pattern, cell_is, cell_arity, cell_taken}
use Rattle.eq_base.proofs.pattern.Pattern.cell.Goals as goal

pub index-node-requires : goal.index-node-requires
index-node-requires c =
    omega (arith, length-pattern c.self.inside.nodes.items c.args.self.now c.self.view_is c.self.invariant)

pub returns : goal.returns
returns c =
    let nodes = c.self.inside.nodes.items in
    let p = c.args.self.now in
    let n = c.index-node.result.now in
    record {
      value = c.cell.ensures ∙ cell_is nodes p c.self.view_is c.self.invariant c.args.at n c.index-node.ensures c.requires;
      arity = ap arity_in c.cell.ensures ∙ cell_arity nodes p c.self.view_is c.self.invariant c.args.at n c.index-node.ensures c.requires;
      taken = subst CellTakesArguments (sym c.cell.ensures) (cell_taken nodes p c.self.view_is c.self.invariant c.args.at n c.index-node.ensures c.requires);
    }
