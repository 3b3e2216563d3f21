use Rattle.std.proofs.Common.{◌<◌, arith, ◌∙◌, ap, sym}
use Rattle.eq_base.specs.Tree.{head_of, size}
use Rattle.eq_base.proofs.Trees.{length-subtrees}
use Rattle.eq_base.proofs.Terms.{length-term, term_head, tree_at-subtrees}
use Rattle.eq_base.proofs.flat.FlatTermView.head.Goals as goal

pub index-requires : goal.index-requires
index-requires c =
    omega (arith, length-term c.self.inside.nodes.items c.args.self.now c.self.view_is c.self.invariant, length-subtrees c.args.self.now)

pub returns : goal.returns
returns c =
    let t = c.args.self.now in
    let there : c.args.node < size t = omega (arith, c.requires, length-subtrees t) in
    term_head c.self.inside.nodes.items t c.self.view_is c.self.invariant c.args.node c.index.result.now c.index.ensures there
    ∙ ap head_of (sym (tree_at-subtrees t c.args.node c.requires))
