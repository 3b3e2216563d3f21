use Rattle.std.proofs.Common.{◌≡◌, sym, ap, ◌∙◌}
use Rattle.eq_base.specs.Tree.{head_of, arity_of}
use Rattle.eq_base.specs.View.{tree_at}
use Rattle.lisp_m.specs.declared.write.Part.TheVariants.{Element}
use Rattle.lisp_m.specs.Writing.{part_in}
use Rattle.lisp_m.proofs.Prints.{element_follows}
use Rattle.lisp_m.proofs.write.begin_rest.Goals as goal

pub returns-in_ok-push-in-Element-clause-ok : goal.returns-in_ok-push-in-Element-clause-ok
returns-in_ok-push-in-Element-clause-ok g c =
    let table = c.args.symbols.now in
    let trees = g.T.TermView.trees c.args.view.now in
    let t = tree_at trees c.args.node in
    let part : part_in table (head_of t) (arity_of t) ≡ Element = ap (λ head. part_in table head (arity_of t)) (sym c.head.ensures) ∙ ap (λ n. part_in table c.head.result n) (sym c.arity.ensures.value) ∙ sym c.part_of.ensures ∙ c.in-Element.is in
    element_follows table trees c.args.node c.args.into.now.items c.push.new.self.items c.element_of.result c.requires.node part c.element_of.ensures c.in_ok-push-in-Element.ensures.items
