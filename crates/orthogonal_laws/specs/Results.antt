-- Words of private functions alone: whether a right side gives something, by the numbers of atoms and strings.
use Rattle.std.specs.Prelude.{◌≡◌, ◌↔◌, IsSome}
use Rattle.eq_base.specs.Tree.{Tree}
use Rattle.eq_base.specs.Operations.{value_of}
use Rattle.eq_base.specs.declared.head.Head.{Head}
use Rattle.eq_base.specs.declared.head.Head.TheVariants.{Atom, Text}
use Rattle.eq_base.specs.declared.rules.Op.{Op}
use Rattle.eq_base.specs.declared.rules.Right.{Right}
use Rattle.eq_base.specs.declared.rules.Right.TheVariants as rights
use Rattle.builtin.specs.declared.value.Operand.{Operand}
use Rattle.builtin.specs.declared.value.Operand.TheVariants as operand
use Rattle.symbol_table.specs.Table.{Table}
use Rattle.symbol_table.specs.Reading.{read, IsLiveTerm}
use Rattle.orthogonal_laws.specs.Operations.{Values}

-- whether an application has a value is as the table says: it has one where the term that is read has one
abbrev pub AreValuesBy : Table → Values → Type 0
AreValuesBy table values =
    (op : Op) (t : Tree Head) → IsLiveTerm table t → IsSome (values op t)
    ↔ IsSome (value_of op (read table t))

-- a right side gives something in the place of the term: a pattern always does, and an operation where the
-- term that is read has a value
abbrev pub HasResult : Table → Right → Tree Head → Type 0
HasResult table (rights.Tree p) t = Unit {0}
HasResult table (rights.Schema op) t = IsSome (value_of op (read table t))

-- the operand has the number of the head, if it has one
abbrev pub HasNumberOf : Operand → Head → Type 0
HasNumberOf (operand.Numeral i) h = Unit {0}
HasNumberOf (operand.Atom n) h = h ≡ Atom n
HasNumberOf (operand.Text n bytes) h = h ≡ Text n
HasNumberOf operand.Other h = Unit {0}
