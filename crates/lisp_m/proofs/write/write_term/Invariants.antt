use Rattle.std.proofs.Common.{◌≡◌, ◌++◌, reverse}
use Rattle.eq_base.specs.View.{tree_at}
use Rattle.symbol_table.specs.Table.{IsFront}
use Rattle.lisp_m.specs.Writing.{print_in, text_left, steps_left, ArePieces}
use Rattle.lisp_m.proofs.write.write_term.Given as goal

-- what was written and what is left are the print
abbrev pub invariant-loop-piece : goal.invariant-loop-piece
invariant-loop-piece g l = record {
  text : l.into.items ++ text_left l.symbols (g.T.TermView.trees l.view) (reverse l.left.items) ≡ l.fn.into.items ++ print_in l.symbols (tree_at (g.T.TermView.trees l.view) l.node);
  pieces : ArePieces l.symbols (g.T.TermView.trees l.view) (reverse l.left.items);
  front : IsFront l.fn.into.items l.into.items;
}

abbrev pub decreases-loop-piece : goal.decreases-loop-piece
decreases-loop-piece g l = steps_left l.symbols (g.T.TermView.trees l.view) (reverse l.left.items)
