-- What the readers of names need, and what they answer.
use Rattle.std.specs.Prelude.{◌≡◌, ℕ, ◌^◌, ◌≤◌, List, [], length, map, Result, Ok, Err}
use Rattle.std.specs.List.{AllByRecursion}
use Rattle.eq_base.specs.declared.rules.Op.{Op}
use Rattle.term_lex.specs.declared.token.Token.{Token}
use Rattle.term_lex.specs.Values.{IsTokenOf, IsNumeralOf}
use Rattle.symbol_table.specs.Table.{Table, names_of}
use Rattle.symbol_table.specs.Reading.{AreLiveClasses}
use Rattle.written_terms.specs.Notation.{Notation}
use Rattle.def_file.specs.declared.error.FileError.{FileError}
use Rattle.def_file.specs.declared.tree.Condition.{Condition}
use Rattle.def_file.specs.declared.naming.listed.Listed.{Listed}
use Rattle.def_file.specs.declared.naming.Named.{Named}
use Rattle.def_file.specs.Trees.{File}
use Rattle.def_file.specs.Grammar.{IsFileText}
use Rattle.def_file.specs.Sides.{all_limits, AnswersLimits}
use Rattle.def_file.specs.Definitions.{sides_of, MeanItems}
use Rattle.def_file.specs.AsRead.{numbered_read, AreLiveItems}
use Rattle.def_file.specs.Errors.{IfRefused}
use Rattle.def_file.specs.Names.{Place, Symbol, Class, NewClass, Member, Variable, Term, Qualified, ClassOf, Operation, Known, nothing_known, places_of, TakesAll, RefusesFirst}

-- the tokens of the place stand in the text
abbrev pub IsPlaced : List ℕ → Place → Type 0
IsPlaced text (Symbol name arity) = IsTokenOf text name × IsNumeralOf text arity
IsPlaced text (Class name) = IsTokenOf text name
IsPlaced text (NewClass name) = IsTokenOf text name
IsPlaced text (Member class member) = IsTokenOf text member
IsPlaced text (Variable name) = IsTokenOf text name
IsPlaced text (Term byte) = byte ≤ length text
IsPlaced text (Qualified before name) = AllByRecursion (IsTokenOf text) before × IsTokenOf text name
IsPlaced text (ClassOf name) = IsTokenOf text name
IsPlaced text (Operation name) = IsTokenOf text name

-- the same of each place
abbrev pub ArePlaced : List ℕ → List Place → Type 0
ArePlaced text places = AllByRecursion (IsPlaced text) places

-- the places were taken, which led from the old names to the new, or the first that has a fault was refused; memory may have run out
abbrev pub IsTaking : {A : Type 0} → Notation → List ℕ → Known → List Place → Known → Result A FileError
    → Type 0
IsTaking notation text old places new (Ok x) = TakesAll notation text old places new
IsTaking notation text old places new (Err error) = IfRefused (RefusesFirst notation text old places) error

-- what is known by a table of symbols, with what is listed and with equation classes
abbrev pub knowing : Table → Listed → List Op → Known
knowing table listed operations = record {
  table = names_of table;
  class_names = listed.class_names;
  classes = listed.classes;
  variables = listed.variables;
  operations = operations;
}

-- the symbols are known, and nothing else
abbrev pub only_symbols : Table → Known
only_symbols table =
    record { table = names_of table; class_names = []; classes = []; variables = []; operations = [] }

-- the symbols and what is listed are known, and no equation classes
abbrev pub no_operations : Table → Listed → Known
no_operations table listed = knowing table listed []

-- the names before `is`
abbrev pub qualified_names : List Condition → List Token
qualified_names conditions = map (λ c. c.variable) conditions

-- what is known when all names of a file are
abbrev pub known_of : Named → Known
known_of named = knowing named.symbols named.listed named.operations.items

-- what the names of a file come to: all of them are taken, or the first that has a fault is refused; memory may have run out
abbrev pub IsNaming : Notation → List ℕ → File → Result Named FileError → Type 0
IsNaming notation text file (Ok named) =
    TakesAll notation text nothing_known (places_of file) (known_of named)
IsNaming notation text file (Err error) =
    IfRefused (RefusesFirst notation text nothing_known (places_of file)) error

-- the text is a file of few enough bytes, whose names have no fault and are these; its items, and the first limit that it passes
pub record IsNamed (notation : Notation) (text : List ℕ) (file : File) (named : Named) : Type 0 where
  pub short : length text ≤ 2 ^ 24
  pub reads : IsFileText notation text file
  pub names : TakesAll notation text nothing_known (places_of file) (known_of named)
  pub items : MeanItems notation text (known_of named) 1 file.items
      (map (numbered_read named.symbols) named.taken.items.items)
  pub live : AreLiveItems named.symbols named.taken.items.items
  pub members : AreLiveClasses (names_of named.symbols) named.listed.classes
  pub named_all : length named.listed.class_names ≡ length named.listed.classes
  pub limits : AnswersLimits notation text (known_of named) (all_limits 0 (sides_of file)) named.taken.fault
