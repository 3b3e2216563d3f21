use Rattle.std.proofs.Common.{◌≡◌, ◌++◌, reverse}
use Rattle.eq_base.specs.View.{tree_at}
use Rattle.standmath.specs.Printing.{print_by}
use Rattle.symbol_table.specs.Table.{IsFront}
use Rattle.written_terms.specs.Printing.{text_in}
use Rattle.standmath.specs.Writing.{text_left, steps_left, AreOpen}
use Rattle.standmath.proofs.write.write_term.Given as goal

-- what was written and what is left are the print
abbrev pub invariant-loop-innermost : goal.invariant-loop-innermost
invariant-loop-innermost g l = record {
  text : l.into.items ++ text_left (text_in l.symbols) (g.T.TermView.trees l.view) (reverse l.opens.items) ≡ l.fn.into.items ++ print_by (text_in l.symbols) (tree_at (g.T.TermView.trees l.view) l.node);
  opens : AreOpen l.symbols (g.T.TermView.trees l.view) (reverse l.opens.items);
  front : IsFront l.fn.into.items l.into.items;
}

abbrev pub decreases-loop-innermost : goal.decreases-loop-innermost
decreases-loop-innermost g l = steps_left (text_in l.symbols) (g.T.TermView.trees l.view) (reverse l.opens.items)
