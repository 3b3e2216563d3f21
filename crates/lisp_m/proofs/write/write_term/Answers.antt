use Rattle.std.proofs.Common.{◌≡◌, ◌++◌, sym, subst, arith}
use Rattle.std.proofs.lemmas.Grind.{common_steps}
use Rattle.eq_base.specs.View.{tree_at}
use Rattle.lisp_m.specs.Writing.{print_in}
use Rattle.symbol_table.specs.Table.{names_of}
use Rattle.symbol_table.specs.Reading.{read}
use Rattle.lisp_m.proofs.Prints.{print_read}
use Rattle.lisp_m.proofs.RoundTrip.{print_is_read}
use Rattle.lisp_m.proofs.write.write_term.Goals as goal

pub returns-clause-ok : goal.returns-clause-ok
returns-clause-ok g c =
    let t = tree_at (g.T.TermView.trees c.args.view.now) c.args.node in
    let written : c.loop-piece.into.items ≡ c.args.into.now.items ++ print_in c.args.symbols.now t = grind (arith, common_steps) in
    subst (λ p. c.loop-piece.into.items ≡ c.args.into.now.items ++ p) (sym (print_read c.args.symbols.now t)) written

pub returns-in_err-push-clause-read_again : goal.returns-in_err-push-clause-read_again
returns-in_err-push-clause-read_again g c = print_is_read (names_of c.args.symbols.now) (read c.args.symbols.now (tree_at (g.T.TermView.trees c.args.view.now) c.args.node))

pub returns-in_err-write_next-clause-read_again : goal.returns-in_err-write_next-clause-read_again
returns-in_err-write_next-clause-read_again g c = print_is_read (names_of c.args.symbols.now) (read c.args.symbols.now (tree_at (g.T.TermView.trees c.args.view.now) c.args.node))

pub returns-clause-read_again : goal.returns-clause-read_again
returns-clause-read_again g c = print_is_read (names_of c.args.symbols.now) (read c.args.symbols.now (tree_at (g.T.TermView.trees c.args.view.now) c.args.node))
