-- What the reader's values are as parts of a file.
use Rattle.std.specs.Prelude.{map}
use Rattle.def_file.specs.declared.tree.SymbolItem.{SymbolItem as SymbolValue}
use Rattle.def_file.specs.declared.tree.SymbolItem.TheVariants as symbols
use Rattle.def_file.specs.declared.tree.ClassItem.{ClassItem as ClassValue}
use Rattle.def_file.specs.declared.tree.Restriction.{Restriction as RestrictionValue}
use Rattle.def_file.specs.declared.tree.Restriction.TheVariants as restrictions
use Rattle.def_file.specs.declared.tree.Condition.{Condition as ConditionValue}
use Rattle.def_file.specs.declared.tree.Sides.{Sides as SidesValue}
use Rattle.def_file.specs.declared.tree.EquationItem.{EquationItem as ItemValue}
use Rattle.def_file.specs.declared.tree.EquationItem.TheVariants as items
use Rattle.def_file.specs.declared.tree.File.{File as FileValue}
use Rattle.def_file.specs.Trees.{SymbolItem, Declares, IncludesClasses, ClassItem, Restriction, InClass, OneOf, Condition, Sides, EquationItem, Equates, IncludesOperations, File}

-- an item of the section of symbols
abbrev pub symbol_item : SymbolValue → SymbolItem
symbol_item (symbols.Declares name arity) = Declares name arity
symbol_item (symbols.Includes include names) = IncludesClasses include names.items

-- a class of the file
abbrev pub class_item : ClassValue → ClassItem
class_item c = record { name = c.name; members = c.members.items }

-- what a variable may stand for
abbrev pub restriction : RestrictionValue → Restriction
restriction (restrictions.InClass name) = InClass name
restriction (restrictions.OneOf terms) = OneOf terms.items

-- a qualified variable
abbrev pub condition : ConditionValue → Condition
condition c = record { variable = c.variable; restriction = restriction c.restriction }

-- an equation
abbrev pub sides : SidesValue → Sides
sides s = record { left = s.left; right = s.right; conditions = map condition s.conditions.items }

-- an item of the section of equations
abbrev pub equation_item : ItemValue → EquationItem
equation_item (items.Equates s) = Equates (sides s)
equation_item (items.Includes include names) = IncludesOperations include names.items

-- a file
abbrev pub file : FileValue → File
file f = record {
  symbols = map symbol_item f.symbols.items;
  classes = map class_item f.classes.items;
  variables = f.variables.items;
  items = map equation_item f.items.items;
}
