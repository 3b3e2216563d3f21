use Rattle.std.proofs.Common.{◌<◌, arith, ◌∙◌, ap, sym, subst}
use Rattle.eq_base.specs.Tree.{head_of, arity_of, size}
use Rattle.eq_base.specs.Cells.{TakesArguments}
use Rattle.eq_base.proofs.Trees.{length-subtrees}
use Rattle.eq_base.proofs.Terms.{length-term, term_arity, term_taken, tree_at-subtrees}
use Rattle.eq_base.proofs.flat.FlatTermView.arity.Goals as goal

pub index-requires : goal.index-requires
index-requires c =
    omega (arith, length-term c.self.inside.nodes.items c.args.self.now c.self.view_is c.self.invariant, length-subtrees c.args.self.now)

pub returns : goal.returns
returns c =
    let nodes = c.self.inside.nodes.items in
    let t = c.args.self.now in
    let n = c.index.result.now in
    let there : c.args.node < size t = omega (arith, c.requires, length-subtrees t) in
    let same = sym (tree_at-subtrees t c.args.node c.requires) in
    record {
      value = term_arity nodes t c.self.view_is c.self.invariant c.args.node n c.index.ensures there ∙ ap arity_of same;
      taken = subst (λ s. TakesArguments (head_of s) n.arity) same (term_taken nodes t c.self.view_is c.self.invariant c.args.node n c.index.ensures there);
    }
