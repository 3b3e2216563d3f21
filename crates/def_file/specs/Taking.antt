-- What is taken of the written equations, once their names are known.
use Rattle.std.specs.Prelude.{◌≡◌, ℕ, ◌+◌, List, [], ◌∷◌, ◌++◌, map, Option, Some, None}
use Rattle.std.specs.List.{flat_map}
use Rattle.eq_base.specs.Tree.{Tree, node, map_heads}
use Rattle.eq_base.specs.Pattern.{PatternCell, fixed}
use Rattle.eq_base.specs.declared.head.Head.{Head}
use Rattle.eq_base.specs.declared.head.Head.TheVariants.{Symbol}
use Rattle.eq_base.specs.declared.rules.Op.{Op}
use Rattle.term_lex.specs.declared.token.Token.{Token}
use Rattle.term_lex.specs.declared.fault.Fault.{Fault}
use Rattle.symbol_table.specs.Table.{Table, Keeps}
use Rattle.written_terms.specs.Notation.{Notation}
use Rattle.symbol_table.specs.Reading.{read_pattern, IsLivePattern}
use Rattle.def_file.specs.declared.naming.conditions.Choice.{Choice}
use Rattle.def_file.specs.declared.naming.conditions.Choice.TheVariants as choice
use Rattle.def_file.specs.declared.naming.conditions.TakenCondition.{TakenCondition}
use Rattle.def_file.specs.declared.naming.listed.Listed.{Listed}
use Rattle.def_file.specs.declared.naming.items.TakenEquation.{TakenEquation}
use Rattle.def_file.specs.declared.naming.items.TakenItem.{TakenItem}
use Rattle.def_file.specs.declared.naming.items.TakenItem.TheVariants as taken
use Rattle.def_file.specs.declared.definitions.Qualifier.{Qualifier}
use Rattle.def_file.specs.declared.definitions.Written.{Written}
use Rattle.def_file.specs.declared.definitions.Item.TheVariants as item
use Rattle.def_file.specs.declared.definitions.Numbered.{Numbered}
use Rattle.def_file.specs.AsRead.{equation_read, IsLiveWritten}
use Rattle.def_file.specs.Pairs.{AreRelated}
use Rattle.def_file.specs.Operations.{operation_name}
use Rattle.def_file.specs.Trees.{Restriction, InClass, OneOf, Sides, EquationItem, Equates, IncludesOperations}
use Rattle.def_file.specs.Names.{Known, token_bytes}
use Rattle.def_file.specs.Naming.{knowing}
use Rattle.def_file.specs.Sides.{IsPattern, limits_of, AnswersLimits}
use Rattle.def_file.specs.Definitions.{classed, NamesClass, NamesVariable, MeansEquation}

-- P of what is known and of the table, whatever atoms and texts join it, and whatever equation classes are included
abbrev pub Lasts : (Known → Table → Type 0) → Table → Listed → Type 0
Lasts P table listed =
    (later : Table) (operations : List Op) → Keeps table later → P (knowing later listed operations) later

module _ (notation : Notation) (text : List ℕ) (known : Known) (table : Table) where
  -- the term from the byte on is this pattern, as the table reads it, and each number in it is live
  pub record IsSideTaken (byte : ℕ) (pattern : Tree (PatternCell Head)) : Type 0 where
    pub means : IsPattern notation text known byte (read_pattern table pattern)
    pub live : IsLivePattern table pattern

  -- what a variable may stand for: the class of that name, or the patterns of these terms
  abbrev pub TakesChoice : Restriction → Choice → Type 0
  TakesChoice (InClass name) (choice.InClass class) =
      NamesClass known.class_names (token_bytes text name) class
  TakesChoice (OneOf terms) (choice.OneOf patterns) = AreRelated IsSideTaken terms patterns.items
  TakesChoice written taken = ⊥

  -- the variable of that name, and what it may stand for
  pub record TakesCondition (name : Token) (written : Restriction) (taken : TakenCondition) : Type 0 where
    pub variable : NamesVariable text known name taken.variable
    pub choice : TakesChoice written taken.choice
    pub place : taken.byte ≡ name.from

  -- the two sides and the conditions
  pub record TakesEquation (sides : Sides) (taken : TakenEquation) : Type 0 where
    pub left : IsSideTaken sides.left taken.left
    pub right : IsSideTaken sides.right taken.right
    pub conditions : AreRelated (λ c t. TakesCondition c.variable c.restriction t)
        sides.conditions taken.conditions.items

  -- a written equation with the first limit that it passes, where so many stand before it
  pub record TakesWritten (before : ℕ) (sides : Sides) (equation : Written)
      (fault : Option Fault) : Type 0 where
    pub means : MeansEquation notation text known sides (equation_read table equation)
    pub live : IsLiveWritten table equation
    pub limits : AnswersLimits notation text known (limits_of before sides) fault

  -- an equation with the first limit that it passes, or equation classes with their first bytes
  abbrev pub TakesItem : ℕ → EquationItem → TakenItem → Type 0
  TakesItem before (Equates sides) (taken.Equates equation fault) = TakesWritten before sides equation fault
  TakesItem before (IncludesOperations include names) (taken.Includes operations) =
      AreRelated (λ name o. (token_bytes text name ≡ operation_name o.0)
      × (o.1 ≡ name.from)) names operations.items
  TakesItem before written taken = ⊥

-- a symbol stands at the root, by its number
abbrev pub HasDeclaredRoot : Tree (PatternCell Head) → Type 0
HasDeclaredRoot (node (fixed (Symbol n)) args) = Unit {0}
HasDeclaredRoot pattern = ⊥

-- ---- variables in classes

-- the variable with the number of its class, where it is in one
abbrev pub class_in : ℕ → Choice → List (ℕ × ℕ)
class_in x (choice.InClass class) = (x, class) ∷ []
class_in x (choice.OneOf patterns) = []

-- the variables that are in classes, each with the number of its class
abbrev pub classes_in : List TakenCondition → List (ℕ × ℕ)
classes_in ts = flat_map (λ (t : TakenCondition). class_in t.variable t.choice) ts

-- the alternatives with their variables in their classes
abbrev pub choices_of : List (ℕ × ℕ) → Choice → List (Tree (PatternCell Head))
choices_of classes (choice.InClass class) = []
choices_of classes (choice.OneOf patterns) = map (map_heads (classed classes)) patterns.items

-- the qualifier of a condition
abbrev pub qualifier_of : List (ℕ × ℕ) → TakenCondition → Qualifier
qualifier_of classes t =
    record { variable = t.variable; choices = choices_of classes t.choice; byte = t.byte }

-- the equation, each of its variables in its class
abbrev pub written_of : ℕ → TakenEquation → Written
written_of byte t = record {
  left = map_heads (classed (classes_in t.conditions.items)) t.left;
  right = map_heads (classed (classes_in t.conditions.items)) t.right;
  qualifiers = map (qualifier_of (classes_in t.conditions.items)) t.conditions.items;
  byte = byte;
}

-- ---- one item after another

-- an equation class as an item with the number
abbrev pub class_item : ℕ → Op × ℕ → Numbered
class_item number o = record { item = item.Class o.0 o.1; number = number }

-- the first fault, if there is one
abbrev pub first_fault : Option Fault → Option Fault → Option Fault
first_fault (Some fault) other = Some fault
first_fault None other = other

-- the items behind one more item with the number
abbrev pub items_behind : ℕ → List Numbered → TakenItem → List Numbered
items_behind number items (taken.Equates equation fault) =
    items ++ record { item = item.Equation equation; number = number } ∷ []
items_behind number items (taken.Includes operations) = items ++ map (class_item number) operations.items

-- how many equations stand behind one more item
abbrev pub equations_behind : ℕ → TakenItem → ℕ
equations_behind before (taken.Equates equation fault) = before + 1
equations_behind before (taken.Includes operations) = before

-- the first fault behind one more item
abbrev pub fault_behind : Option Fault → TakenItem → Option Fault
fault_behind found (taken.Equates equation fault) = first_fault found fault
fault_behind found (taken.Includes operations) = found
