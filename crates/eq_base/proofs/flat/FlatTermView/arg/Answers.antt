use Rattle.std.proofs.Common.{rules, List, ◌≡◌, ◌<◌, length, get_or, [], ◌∷◌, arith, subst, ap, sym, ◌∙◌, Some}
use Rattle.std.proofs.lemmas.List.{get_or_default}
use Rattle.eq_base.specs.Tree.{arity_of, subtrees, nth_subtree, size, subtree_at}
use Rattle.eq_base.specs.declared.preorder.Node.{Node}
use Rattle.eq_base.specs.declared.head.Head.{Head}
use Rattle.eq_base.specs.declared.head.Head.TheVariants.{Symbol}
use Rattle.eq_base.specs.View.{IsArgument}
use Rattle.eq_base.proofs.Trees.{length-subtrees, argument_of, argument_of-within, subtree_at-argument_of, argument_of-more}
use Rattle.eq_base.proofs.Terms.{length-term, term_end, tree_at-subtrees}
use Rattle.eq_base.proofs.flat.FlatTermView.arg.Goals as goal
use Rattle.eq_base.proofs.flat.FlatTermView.arg.Goals.{After-as_slice-nodes}

all_there : (c : After-as_slice-nodes) → length c.self.inside.nodes.items ≡ size c.args.self.now
all_there c = length-term c.self.inside.nodes.items c.args.self.now c.self.view_is c.self.invariant

node_there : (c : After-as_slice-nodes) → c.args.node < size c.args.self.now
node_there c = omega (arith, c.requires.node, length-subtrees c.args.self.now)

arg_there : (c : After-as_slice-nodes) → c.args.i < arity_of (nth_subtree c.args.self.now c.args.node)
arg_there c = omega (arith, c.requires.arity, ap arity_of (tree_at-subtrees c.args.self.now c.args.node c.requires.node))

pub overflow_add-at : goal.overflow_add-at
overflow_add-at c = omega (arith, node_there c, all_there c)

pub bounds-nodes-at : goal.bounds-nodes-at
bounds-nodes-at c =
    let d = (goal.at.bounds-nodes-at c).After-as_slice-nodes in
    let there : c.loop.counter < arity_of (nth_subtree c.args.self.now c.args.node) = omega (arith, arg_there d) in
    let within = argument_of-within c.args.self.now c.args.node c.loop.counter (node_there d) there in
    omega (arith, c.loop.invariant, within, all_there d, ap length c.as_slice-nodes.ensures.value)

pub offset_bounds-nodes-at : goal.offset_bounds-nodes-at
offset_bounds-nodes-at c = let below : c.loop.at < length c.as_slice-nodes.result.now = bounds-nodes-at c in search rules

pub loop-preserved : goal.loop-preserved
loop-preserved c =
    let d = (goal.at.loop-preserved c).After-as_slice-nodes in
    let t = c.args.self.now in
    let nodes = c.self.inside.nodes.items in
    let there : c.loop.counter < arity_of (nth_subtree t c.args.node) = omega (arith, arg_there d) in
    let at = argument_of t c.args.node c.loop.counter in
    let within : at < size t = argument_of-within t c.args.node c.loop.counter (node_there d) there in
    let within' : at < length nodes = omega (arith, all_there d) in
    let leaf : Node Head = record { item = Symbol 0; arity = 0; end = 0 } in
    let read = get_or_default nodes at leaf (get_or nodes at leaf) within' in
    ap (λ (l : List (Node Head)). (get_or l c.loop.at leaf).end) c.as_slice-nodes.ensures.value
    ∙ ap (λ k. (get_or nodes k leaf).end) c.loop.invariant
    ∙ term_end nodes t c.self.view_is c.self.invariant at (get_or nodes at leaf) read within
    ∙ argument_of-more t c.args.node c.loop.counter (node_there d) there

pub returns : goal.returns
returns c =
    let d = (goal.at.returns c).After-as_slice-nodes in
    let t = c.args.self.now in
    let n = c.args.node in
    let e : c.loop.counter ≡ c.args.i = omega arith in
    let at : c.loop.at ≡ argument_of t n c.args.i = c.loop.invariant ∙ ap (argument_of t n) e in
    let within = argument_of-within t n c.args.i (node_there d) (arg_there d) in
    let listed : argument_of t n c.args.i < length (subtrees t) = omega (arith, within, length-subtrees t) in
    let here = tree_at-subtrees t n c.requires.node in
    let arg = tree_at-subtrees t (argument_of t n c.args.i) listed in
    subst (IsArgument (subtrees t) n c.args.i) (sym at)
    (record {
      there = listed;
      stands = ap (λ s. subtree_at s (c.args.i ∷ [])) here ∙ subtree_at-argument_of t n c.args.i (node_there d) (arg_there d) ∙ ap Some (sym arg);
    })
