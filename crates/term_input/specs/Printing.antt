-- The print of a term in a notation.
use Rattle.std.specs.Prelude.{ℕ, List}
use Rattle.eq_base.specs.Tree.{Tree}
use Rattle.eq_base.specs.ReadHead.{ReadHead}
use Rattle.term_lex.specs.declared.syntax.Syntax.{Syntax}
use Rattle.term_lex.specs.declared.syntax.Syntax.TheVariants.{Standmath, LispM}
use Rattle.symbol_table.specs.Table.{Table}
use Rattle.standmath.specs.Printing as standmath
use Rattle.lisp_m.specs.Printing as lisp_m

-- the print of the term, by what is declared
abbrev pub print : Syntax → Table → Tree ReadHead → List ℕ
print Standmath names term = standmath.print names term
print LispM names term = lisp_m.print names term
