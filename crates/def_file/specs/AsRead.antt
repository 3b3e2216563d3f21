-- The definitions of a file as they are read: atoms and strings by their bytes.
use Rattle.std.specs.Prelude.{ℕ, List, map, Result, Ok, Err}
use Rattle.std.specs.List.{AllByRecursion}
use Rattle.eq_base.specs.Tree.{Tree}
use Rattle.eq_base.specs.Pattern.{PatternCell}
use Rattle.eq_base.specs.ReadHead.{ReadHead}
use Rattle.eq_base.specs.declared.rules.Op.{Op}
use Rattle.symbol_table.specs.Table.{Table, names_of}
use Rattle.symbol_table.specs.Reading.{read_pattern, read_classes, IsLivePattern}
use Rattle.def_file.specs.declared.definitions.Qualifier.{Qualifier}
use Rattle.def_file.specs.declared.definitions.Written.{Written}
use Rattle.def_file.specs.declared.definitions.Item.{Item}
use Rattle.def_file.specs.declared.definitions.Item.TheVariants as item
use Rattle.def_file.specs.declared.definitions.Numbered.{Numbered}
use Rattle.def_file.specs.declared.definitions.Definitions.{Definitions}

-- a qualified variable: its alternatives, of which a class has none, and the first byte of its name before `is`
pub record QualifierOf (H : Type 0) : Type 0 where
  pub variable : ℕ
  pub choices : List (Tree (PatternCell H))
  pub byte : ℕ

-- a written equation, and its first byte
pub record EquationOf (H : Type 0) : Type 0 where
  pub left : Tree (PatternCell H)
  pub right : Tree (PatternCell H)
  pub qualifiers : List (QualifierOf H)
  pub byte : ℕ

-- an equation, or the equations of an operation, whose class is named at the byte
pub data ItemOf (H : Type 0) : Type 0 where
  Equation : EquationOf H → ItemOf H
  Class : (op : Op) (byte : ℕ) → ItemOf H

-- an item, and the number of the written item that gives it
pub record NumberedOf (H : Type 0) : Type 0 where
  pub item : ItemOf H
  pub number : ℕ

-- what is declared and included, the names of the classes and their members, the variables by their numbers, and the
-- items in their order
pub record DefinitionsOf (H : Type 0) : Type 0 where
  pub names : Table
  pub class_names : List (List ℕ)
  pub classes : List (List H)
  pub variables : List (List ℕ)
  pub items : List (NumberedOf H)

-- the same with heads as they are read
abbrev pub ReadQualifier : Type 0
ReadQualifier = QualifierOf ReadHead

abbrev pub ReadEquation : Type 0
ReadEquation = EquationOf ReadHead

abbrev pub ReadItem : Type 0
ReadItem = ItemOf ReadHead

abbrev pub ReadNumbered : Type 0
ReadNumbered = NumberedOf ReadHead

abbrev pub ReadDefinitions : Type 0
ReadDefinitions = DefinitionsOf ReadHead

-- ---- as a table reads them

abbrev pub qualifier_read : Table → Qualifier → ReadQualifier
qualifier_read table q =
    record { variable = q.variable; choices = map (read_pattern table) q.choices; byte = q.byte }

abbrev pub equation_read : Table → Written → ReadEquation
equation_read table e = record {
  left = read_pattern table e.left;
  right = read_pattern table e.right;
  qualifiers = map (qualifier_read table) e.qualifiers;
  byte = e.byte;
}

abbrev pub item_read : Table → Item → ReadItem
item_read table (item.Equation e) = Equation (equation_read table e)
item_read table (item.Class op byte) = Class op byte

abbrev pub numbered_read : Table → Numbered → ReadNumbered
numbered_read table n = record { item = item_read table n.item; number = n.number }

abbrev pub definitions_read : Definitions → ReadDefinitions
definitions_read d = record {
  names = names_of d.symbols;
  class_names = d.class_names;
  classes = read_classes d.symbols d.classes;
  variables = d.variables;
  items = map (numbered_read d.symbols) d.items;
}

-- the answer with its definitions as they are read
abbrev pub answer_read : {E : Type 0} → Result Definitions E → Result ReadDefinitions E
answer_read (Ok d) = Ok (definitions_read d)
answer_read (Err e) = Err e

-- ---- live numbers

-- each number in the sides and the alternatives of the equation is live
pub record IsLiveWritten (table : Table) (e : Written) : Type 0 where
  pub left : IsLivePattern table e.left
  pub right : IsLivePattern table e.right
  pub choices : AllByRecursion (λ (q : Qualifier). AllByRecursion
      (IsLivePattern table) q.choices) e.qualifiers

-- each number in the item is live
abbrev pub IsLiveItem : Table → Item → Type 0
IsLiveItem table (item.Equation e) = IsLiveWritten table e
IsLiveItem table (item.Class op byte) = Unit {0}

-- each number in the items is live
abbrev pub AreLiveItems : Table → List Numbered → Type 0
AreLiveItems table items = AllByRecursion (λ (n : Numbered). IsLiveItem table n.item) items
