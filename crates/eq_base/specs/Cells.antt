-- The cells of terms and patterns.
use Rattle.std.specs.Prelude.{◌≡◌, ℕ, Option, Some, None}
use Rattle.eq_base.specs.Tree.{Tree, node, count}
use Rattle.eq_base.specs.Pattern.{PatternCell, fixed, variable, restricted}
use Rattle.eq_base.specs.declared.head.Head as heads
use Rattle.eq_base.specs.declared.head.Head.TheVariants.{Symbol, Numeral, Atom, Text}
use Rattle.eq_base.specs.declared.head.Cell as cells
use Rattle.eq_base.specs.declared.head.Cell.TheVariants.{Head, Var, Class}

-- the head takes so many arguments: a symbol takes any number, the other heads take none
abbrev pub TakesArguments : heads.Head → ℕ → Type 0
TakesArguments (Symbol s) n = Unit {0}
TakesArguments (Numeral i) n = n ≡ 0
TakesArguments (Atom a) n = n ≡ 0
TakesArguments (Text t) n = n ≡ 0

-- a head in the cell takes the arguments that it has there
abbrev pub CellTakesArguments : cells.Cell → Type 0
CellTakesArguments (Head h arity) = TakesArguments h arity
CellTakesArguments (Var x) = Unit {0}
CellTakesArguments (Class x class) = Unit {0}

-- what stands in the cell
abbrev pub kind_of : cells.Cell → PatternCell heads.Head
kind_of (Head h arity) = fixed h
kind_of (Var x) = variable x
kind_of (Class x class) = restricted x class

-- how many arguments the cell has
abbrev pub arity_in : cells.Cell → ℕ
arity_in (Head h arity) = arity
arity_in (Var x) = 0
arity_in (Class x class) = 0

-- the variable in the cell, plain or restricted
abbrev pub variable_in : cells.Cell → Option ℕ
variable_in (Head h arity) = None
variable_in (Var x) = Some x
variable_in (Class x class) = Some x

-- the cell with its number of arguments
abbrev pub with_arity : cells.Cell → cells.Cell × ℕ
with_arity c = (c, arity_in c)

-- the cell as one of the pattern's tree
abbrev pub tree_cell : cells.Cell → PatternCell heads.Head × ℕ
tree_cell c = (kind_of c, arity_in c)

-- the cell at the root of a pattern
abbrev pub root_cell : Tree (PatternCell heads.Head) → cells.Cell
root_cell (node (fixed h) args) = Head h (count args)
root_cell (node (variable x) args) = Var x
root_cell (node (restricted x class) args) = Class x class
