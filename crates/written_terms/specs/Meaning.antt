-- What the outline of a written term means: by the declared names, the included classes and the bytes of its lexemes alone.
use Rattle.std.specs.Prelude.{◌≡◌, ℕ, zero, List, Some, slice_get, Contains, codes, ◌⊎◌}
use Rattle.eq_base.specs.Tree.{Tree, Forest, node, empty, grow, count}
use Rattle.eq_base.specs.Pattern.{PatternCell, fixed, variable}
use Rattle.eq_base.specs.ReadHead.{ReadHead, symbol, numeral, atom, text}
use Rattle.eq_base.specs.declared.meeting.SymbolClass.TheVariants.{Numerals, Atoms, Strings}
use Rattle.term_lex.specs.declared.token.TokenKind.TheVariants.{Name, OpenRound, Numeral, Text}
use Rattle.term_lex.specs.Lexemes.{Lexeme}
use Rattle.term_lex.specs.Parts.{IsKind}
use Rattle.term_lex.specs.Strings.{IsString}
use Rattle.term_lex.specs.Values.{numeral_value}
use Rattle.symbol_table.specs.Table.{Table, IsDeclared, HasName, Includes}
use Rattle.written_terms.specs.Notation.{Notation}

-- a name with so many arguments: the symbol that is declared so, or an atom where no symbol has the name and atoms are
-- included
abbrev pub NamesHead : Table → List ℕ → ℕ → ReadHead → Type 0
NamesHead table name args (symbol n) = IsDeclared table name n args
NamesHead table name args (atom bytes) = (¬ HasName table name) × (args ≡ 0) × Includes table Atoms
    × (bytes ≡ name)
NamesHead table name args head = ⊥

-- a literal: a numeral with its value, or a string with the bytes that it holds, where their class is included
abbrev pub IsLiteral : Table → Lexeme → ReadHead → Type 0
IsLiteral table x (numeral value) = IsKind Numeral x × Includes table Numerals
    × (value ≡ numeral_value x.bytes)
IsLiteral table x (text value) = IsKind Text x × Includes table Strings × IsString x.bytes value
IsLiteral table x head = ⊥

-- lists can be written: `cons` is declared with two arguments and `nil` with none
pub record HasLists (table : Table) : Type 0 where
  pub cons : ℕ
  pub nil : ℕ
  pub cons_is : IsDeclared table (codes "cons") cons 2
  pub nil_is : IsDeclared table (codes "nil") nil 0

-- a part of a list with so many arguments: `nil` with none, `cons` with two
abbrev pub IsListPart : Table → ℕ → ReadHead → Type 0
IsListPart table zero head = (lists : HasLists table) × (head ≡ symbol lists.nil)
IsListPart table args head = (args ≡ 2) × ((lists : HasLists table) × (head ≡ symbol lists.cons))

-- The declared names and the included classes are known by a table, whose atoms and texts do not matter; the variables by
-- the list of their names.
module _ (table : Table) (variables : List (List ℕ)) where
  -- a lexeme with so many arguments: a variable has none, another name, a literal and a part of a list are what the table says
  abbrev pub MeansCell : Lexeme → ℕ → PatternCell ReadHead → Type 0
  MeansCell x args (variable v) = IsKind Name x × (slice_get variables v ≡ Some x.bytes) × (args ≡ 0)
  MeansCell x args (fixed head) =
      (IsKind Name x × (¬ Contains variables x.bytes) × NamesHead table x.bytes args head)
      ⊎ (((args ≡ 0) × IsLiteral table x head)
      ⊎ (IsKind OpenRound x × IsListPart table args head))
  MeansCell x args c = ⊥

  -- an outline means the pattern with the same shape whose cells are what its lexemes mean
  abbrev mutual
    pub MeansTree : Tree Lexeme → Tree (PatternCell ReadHead) → Type 0
    MeansTree (node x args) (node c ps) = MeansCell x (count args) c × MeanTrees args ps

    -- the same of each of a list
    pub MeanTrees : Forest Lexeme → Forest (PatternCell ReadHead) → Type 0
    MeanTrees empty empty = Unit {0}
    MeanTrees (grow t ts) (grow p ps) = MeansTree t p × MeanTrees ts ps
    MeanTrees ts ps = ⊥

-- the written term means the pattern
abbrev pub Means : (notation : Notation) → Table → List (List ℕ) → notation.Written
    → Tree (PatternCell ReadHead) → Type 0
Means notation table variables written p = MeansTree table variables (notation.outline written) p
