use Rattle.std.proofs.Common.{◌≡◌, ◌<◌, ◌++◌, List, ℕ, sym, ap, ◌∙◌, arith}
use Rattle.eq_base.specs.Tree.{head_of, arity_of}
use Rattle.eq_base.specs.View.{tree_at}
use Rattle.written_terms.specs.Printing.{text_in}
use Rattle.lisp_m.proofs.Prints.{constant_ends, application_begins}
use Rattle.lisp_m.proofs.write.begin_application.Goals as goal

pub returns-then-arity-eq0-clause-ok : goal.returns-then-arity-eq0-clause-ok
returns-then-arity-eq0-clause-ok g c =
    let table = c.args.symbols.now in
    let trees = g.T.TermView.trees c.args.view.now in
    let head : c.write_head.new.into.items ≡ c.args.into.now.items ++ text_in table (head_of (tree_at trees c.args.node)) = ◌∙◌ {A = List ℕ} c.in_ok-write_head.ensures.ok (ap (λ h. c.args.into.now.items ++ text_in table h) c.head.ensures) in
    constant_ends table trees c.args.node c.args.into.now.items c.write_head.new.into.items c.requires.other (sym c.arity.ensures.value ∙ c.if-arity-eq0.true) head

pub returns-clause-ok : goal.returns-clause-ok
returns-clause-ok g c =
    let table = c.args.symbols.now in
    let trees = g.T.TermView.trees c.args.view.now in
    let head : c.write_head.new.into.items ≡ c.args.into.now.items ++ text_in table (head_of (tree_at trees c.args.node)) = ◌∙◌ {A = List ℕ} c.in_ok-write_head.ensures.ok (ap (λ h. c.args.into.now.items ++ text_in table h) c.head.ensures) in
    let some : 0 < arity_of (tree_at trees c.args.node) = omega (arith, c.arity.ensures.value, c.if-arity-eq0.false) in
    application_begins table trees c.args.node c.arg.result c.args.into.now.items c.write_head.new.into.items c.push.new.self.items c.requires.node c.requires.other some c.arg.ensures head c.in_ok-push.ensures.items
