use Rattle.std.proofs.Common.{ℕ, List, take, map}
use Rattle.symbol_table.specs.Table.{Table}
use Rattle.def_file.specs.Names.{Known}
use Rattle.def_file.specs.Pairs.{AreRelated}
use Rattle.def_file.specs.Sides.{Cells, KeepsAll}
use Rattle.def_file.specs.Taking.{IsSideTaken}
use Rattle.term_lex.specs.declared.syntax.Syntax.{Syntax}
use Rattle.def_file.specs.Notations.{notation_of}
use Rattle.def_file.proofs.naming.limits.alternatives_fault.Given as goal

abbrev pub invariant-loop-i : goal.invariant-loop-i
invariant-loop-i l = (syntax : Syntax) (text : List ℕ) (known : Known) (table : Table) → AreRelated (IsSideTaken (notation_of syntax) text known table) l.terms l.patterns → KeepsAll (notation_of syntax) text known (map (Cells 255) (take l.i l.terms))
