-- Definitions and equations as the program holds them, their heads by numbers.
use Rattle.std.specs.Prelude.{List, map}
use Rattle.eq_base.specs.Rules.{rule_of}
use Rattle.eq_base.specs.declared.head.Head.{Head}
use Rattle.eq_base.specs.declared.rules.Equation.{Equation as EquationValue}
use Rattle.eq_base.specs.declared.rules.Origin.{Origin}
use Rattle.def_file.specs.declared.definitions.Qualifier.{Qualifier}
use Rattle.def_file.specs.declared.definitions.Written.{Written}
use Rattle.def_file.specs.declared.definitions.Item.{Item}
use Rattle.def_file.specs.declared.definitions.Item.TheVariants as item
use Rattle.def_file.specs.declared.definitions.Numbered.{Numbered}
use Rattle.def_file.specs.declared.definitions.Definitions.{Definitions}
use Rattle.def_file.specs.AsRead.{QualifierOf, EquationOf, ItemOf, Equation, Class, NumberedOf, DefinitionsOf}
use Rattle.symbol_table.specs.Table.{names_of}
use Rattle.qualifiers.specs.Equations.{Unnumbered}

-- a qualifier, its alternatives as trees
abbrev pub qualifier_held : Qualifier → QualifierOf Head
qualifier_held q = record { variable = q.variable; choices = q.choices; byte = q.byte }

-- all of them
abbrev pub qualifiers_held : List Qualifier → List (QualifierOf Head)
qualifiers_held qs = map qualifier_held qs

-- a written equation
abbrev pub equation_held : Written → EquationOf Head
equation_held e =
    record { left = e.left; right = e.right; qualifiers = qualifiers_held e.qualifiers; byte = e.byte }

-- an item: an equation, or the operation of a class
abbrev pub item_held : Item → ItemOf Head
item_held (item.Equation e) = Equation (equation_held e)
item_held (item.Class op byte) = Class op byte

-- an item with its number
abbrev pub numbered_held : Numbered → NumberedOf Head
numbered_held n = record { item = item_held n.item; number = n.number }

-- all items
abbrev pub items_held : List Numbered → List (NumberedOf Head)
items_held items = map numbered_held items

-- the equation, but for its part
abbrev pub unnumbered_held : EquationValue → Unnumbered Head
unnumbered_held e = record { item = e.origin.item; rule = rule_of e }

-- the item of the equation, and its part
abbrev pub origin_held : EquationValue → Origin
origin_held e = e.origin

-- the definitions, which declare and include what their symbols do
abbrev pub definitions_held : Definitions → DefinitionsOf Head
definitions_held d = record {
  names = names_of d.symbols;
  class_names = d.class_names;
  classes = d.classes;
  variables = d.variables;
  items = items_held d.items;
}
