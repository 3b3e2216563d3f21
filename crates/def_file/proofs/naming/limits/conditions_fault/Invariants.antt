use Rattle.std.proofs.Common.{ℕ, List, take, map}
use Rattle.std.specs.List.{flat_map}
use Rattle.def_file.specs.declared.naming.conditions.TakenCondition.{TakenCondition}
use Rattle.symbol_table.specs.Table.{Table}
use Rattle.def_file.specs.Views.{condition}
use Rattle.def_file.specs.Names.{Known}
use Rattle.def_file.specs.Trees.{Condition}
use Rattle.def_file.specs.Pairs.{AreRelated}
use Rattle.def_file.specs.Sides.{Cells, alternatives_of, KeepsAll}
use Rattle.def_file.specs.Taking.{TakesCondition}
use Rattle.term_lex.specs.declared.syntax.Syntax.{Syntax}
use Rattle.def_file.specs.Notations.{notation_of}
use Rattle.def_file.proofs.naming.limits.conditions_fault.Given as goal

abbrev pub invariant-loop-i : goal.invariant-loop-i
invariant-loop-i l = (syntax : Syntax) (text : List ℕ) (known : Known) (table : Table) → AreRelated (λ (c : Condition) (t : TakenCondition). TakesCondition (notation_of syntax) text known table c.variable c.restriction t) (map condition l.conditions) l.taken → KeepsAll (notation_of syntax) text known (map (Cells 255) (flat_map alternatives_of (map condition (take l.i l.conditions))))
