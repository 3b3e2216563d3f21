-- What contracts see of a `Symbols`: the declared names, the included classes, and the atoms and texts that
-- have numbers.
use Rattle.std.specs.Prelude.{◌≡◌, ℕ, ◌+◌, ◌<◌, ◌≤◌, ℤ, pos, List, [], ◌∷◌, ◌++◌, length, slice_get, Some}
use Rattle.std.specs.Prelude.{Contains, codes, ◌⊎◌}
use Rattle.eq_base.specs.Limits.{most_arguments}
use Rattle.eq_base.specs.declared.head.Head.{Head}
use Rattle.eq_base.specs.declared.head.Head.TheVariants.{Symbol, Atom}
use Rattle.eq_base.specs.declared.meeting.SymbolClass.{SymbolClass}
use Rattle.eq_base.specs.declared.meeting.SymbolClass.TheVariants.{Numerals, Atoms, TruthValues, Strings}

-- a declared name, and how many arguments it takes
pub record Declared : Type 0 where
  pub name : List ℕ
  pub arity : ℕ

-- the declared symbols and the included classes in their order, the atoms and the texts by their numbers
pub record Table : Type 0 where
  pub declared : List Declared
  pub included : List SymbolClass
  pub atoms : List (List ℕ)
  pub texts : List (List ℕ)

-- the table of nothing
abbrev pub no_names : Table
no_names = record { declared = []; included = []; atoms = []; texts = [] }

-- what a table declares and includes, without atoms and texts
abbrev pub names_of : Table → Table
names_of table = record { declared = table.declared; included = table.included; atoms = []; texts = [] }

-- the class is included
abbrev pub Includes : Table → SymbolClass → Type 0
Includes table class = Contains table.included class

-- the symbols that come with the class of truth values
abbrev pub truth_values : List Declared
truth_values = record { name = codes "true"; arity = 0 } ∷ record { name = codes "false"; arity = 0 } ∷ []

-- the symbols by their numbers: 0 and 1 are kept for the truth values
abbrev pub symbols_of : Table → List Declared
symbols_of table = truth_values ++ table.declared

-- the names are listed with this number and this number of arguments; the truth values are known where their
-- class is
-- included
pub record IsListed (declared : List Declared) (included : List SymbolClass) (name : List ℕ)
    (number arity : ℕ) : Type 0 where
  pub listed : slice_get (truth_values ++ declared) number ≡ Some (record { name = name; arity = arity })
  pub known : number < 2 → Contains included TruthValues

-- the table declares the name with this number and this number of arguments
abbrev pub IsDeclared : Table → List ℕ → ℕ → ℕ → Type 0
IsDeclared table name number arity = IsListed table.declared table.included name number arity

-- the name is declared
abbrev pub HasName : Table → List ℕ → Type 0
HasName table name = (number : ℕ) × (arity : ℕ) × IsDeclared table name number arity

-- the number is that of a declared symbol
abbrev pub IsLive : Table → ℕ → Type 0
IsLive table number = (name : List ℕ) × (arity : ℕ) × IsDeclared table name number arity

-- no name is declared twice
abbrev pub HasDistinctNames : Table → Type 0
HasDistinctNames table =
    (name : List ℕ) (one other arity another : ℕ) → IsDeclared table name one arity
    → IsDeclared table name other another
    → one ≡ other

-- two numbers are equal where the bytes are
abbrev pub AreDistinct : List (List ℕ) → Type 0
AreDistinct list =
    (bytes : List ℕ) (one other : ℕ) → slice_get list one ≡ Some bytes → slice_get list other ≡ Some bytes
    → one ≡ other

-- a new name went to the end of the table, with this arity and this number
pub record Declares (old new : Table) (name : List ℕ) (arity : ℤ) (number : ℕ) : Type 0 where
  pub arguments : ℕ
  pub counted : arity ≡ pos arguments
  pub fits : arguments ≤ most_arguments
  pub fresh : ¬ HasName old name
  pub added : new ≡ record old { declared = old.declared ++ record { name = name; arity = arguments } ∷ [] }
  pub numbered : number ≡ 2 + length old.declared

-- the names of the classes
abbrev pub class_name : SymbolClass → List ℕ
class_name Numerals = codes "integer_numerals"
class_name Atoms = codes "atomic_symbols"
class_name TruthValues = codes "truth_values"
class_name Strings = codes "strings"

-- `true` or `false` is declared
abbrev pub HasTruthName : Table → Type 0
HasTruthName table = HasName table (codes "true") ⊎ HasName table (codes "false")

-- the class of that name was not included, and is now
pub record AddsClass (old new : Table) (name : List ℕ) : Type 0 where
  pub class : SymbolClass
  pub named : name ≡ class_name class
  pub fresh : ¬ Includes old class
  pub undeclared : class ≡ TruthValues → ¬ HasTruthName old
  pub added : new ≡ record old { included = old.included ++ class ∷ [] }

-- the bytes have this number in the new list, which is the old one if they were there, and has them behind it
-- if not
pub record Interns (old new : List (List ℕ)) (bytes : List ℕ) (number : ℕ) : Type 0 where
  pub here : slice_get new number ≡ Some bytes
  pub kept : (new ≡ old) ⊎ ((¬ Contains old bytes) × (new ≡ old ++ bytes ∷ []))

-- the name has this number among the atoms of the new table, all else is as it was
abbrev pub InternsAtom : Table → Table → List ℕ → ℕ → Type 0
InternsAtom old new name number =
    Interns old.atoms new.atoms name number × (new ≡ record old { atoms = new.atoms })

-- the bytes have this number among the texts of the new table, all else is as it was
abbrev pub InternsText : Table → Table → List ℕ → ℕ → Type 0
InternsText old new bytes number =
    Interns old.texts new.texts bytes number × (new ≡ record old { texts = new.texts })

-- what a name with that many arguments stands for: the symbol that is declared so, or an atom where no symbol
-- has the name and atoms are included
abbrev pub Resolves : Table → Table → List ℕ → ℕ → Head → Type 0
Resolves old new name args (Symbol number) = IsDeclared old name number args × (new ≡ old)
Resolves old new name args (Atom number) =
    (¬ HasName old name) × (args ≡ 0) × Includes old Atoms × InternsAtom old new name number
Resolves old new name args head = ⊥

-- each name, atom and text has one number
pub record HasOneNumberEach (table : Table) : Type 0 where
  pub names : HasDistinctNames table
  pub atoms : AreDistinct table.atoms
  pub texts : AreDistinct table.texts

-- the list, and perhaps more behind it
abbrev pub IsFront : {A : Type 0} → List A → List A → Type 0
IsFront {A = A} old new = (more : List A) × (new ≡ old ++ more)

-- what is declared and included is as before, and the atoms and texts keep their numbers; others may have
-- joined them
pub record Keeps (old new : Table) : Type 0 where
  pub declared : new.declared ≡ old.declared
  pub included : new.included ≡ old.included
  pub atoms : IsFront old.atoms new.atoms
  pub texts : IsFront old.texts new.texts
