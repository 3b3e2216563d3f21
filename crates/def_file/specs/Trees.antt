-- A definitions file as it is written: its names and numerals by their tokens, its terms by their first bytes.
use Rattle.std.specs.Prelude.{ℕ, List}
use Rattle.term_lex.specs.declared.token.Token.{Token}

-- an item of the section of symbols
pub data SymbolItem : Type 0 where
  Declares : (name arity : Token) → SymbolItem  -- name: arity
  IncludesClasses : (include : Token) → List Token → SymbolItem  -- include class, class

-- a class of the file: its name, and its members, each a name or a numeral
pub record ClassItem : Type 0 where
  pub name : Token
  pub members : List Token

-- what a qualified variable may stand for
pub data Restriction : Type 0 where
  InClass : Token → Restriction  -- in class
  OneOf : List ℕ → Restriction  -- either term or term end or

-- a variable and what it may stand for
pub record Condition : Type 0 where
  pub variable : Token
  pub restriction : Restriction

-- an equation: its two terms, and what stands behind `where`
pub record Sides : Type 0 where
  pub left : ℕ
  pub right : ℕ
  pub conditions : List Condition

-- an item of the section of equations
pub data EquationItem : Type 0 where
  Equates : Sides → EquationItem  -- left = right where ..
  IncludesOperations : (include : Token) → List Token → EquationItem  -- include class, class

-- a file: its symbols, its classes, its variables and its equations
pub record File : Type 0 where
  pub symbols : List SymbolItem
  pub classes : List ClassItem
  pub variables : List Token
  pub items : List EquationItem
