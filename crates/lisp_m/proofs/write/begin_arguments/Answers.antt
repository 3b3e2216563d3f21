use Rattle.std.proofs.Common.{◌<◌, ◌∙◌, subst, arith}
use Rattle.eq_base.specs.Tree.{arity_of}
use Rattle.eq_base.specs.View.{tree_at, IsArgument}
use Rattle.lisp_m.proofs.Prints.{arguments_end, arguments_go_on}
use Rattle.lisp_m.proofs.write.begin_arguments.Goals as goal

pub returns-then-written-arity-clause-ok : goal.returns-then-written-arity-clause-ok
returns-then-written-arity-clause-ok g c =
    let trees = g.T.TermView.trees c.args.view.now in
    arguments_end c.args.symbols.now trees c.args.node c.args.written c.args.into.now.items c.push.new.self.items (c.if-written-arity.true ∙ c.arity.ensures.value) c.in_ok-push.ensures.items

pub returns-clause-ok : goal.returns-clause-ok
returns-clause-ok g c =
    let trees = g.T.TermView.trees c.args.view.now in
    let more : c.args.written < arity_of (tree_at trees c.args.node) = omega (arith, c.requires.1, c.arity.ensures.value, c.if-written-arity.false) in
    let argument = subst (λ i. IsArgument trees c.args.node i c.arg.result) c.from.ensures c.arg.ensures in
    arguments_go_on c.args.symbols.now trees c.args.node c.args.written c.arg.result c.args.into.now.items c.extend_from_slice.new.self.items c.requires.0 more argument c.in_ok-extend_from_slice.ensures.items
