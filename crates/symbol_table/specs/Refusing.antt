-- Why names are refused.
use Rattle.std.specs.Prelude.{◌≡◌, ◌≢◌, ℕ, ℤ, pos, ◌<ℤ◌, ◌⊎◌, List, Contains}
use Rattle.eq_base.specs.Limits.{most_arguments}
use Rattle.eq_base.specs.declared.meeting.SymbolClass.{SymbolClass}
use Rattle.eq_base.specs.declared.meeting.SymbolClass.TheVariants.{Atoms, TruthValues}
use Rattle.term_lex.specs.declared.fault.FaultKind.{FaultKind}
use Rattle.term_lex.specs.declared.fault.FaultKind.TheVariants.{Twice, ArityPast, UnknownClass, WrongArity}
use Rattle.term_lex.specs.declared.fault.FaultKind.TheVariants.{Unknown, VariableTwice}
use Rattle.symbol_table.specs.declared.error.SymbolError.{SymbolError}
use Rattle.symbol_table.specs.declared.error.SymbolError.TheVariants.{Refused, NoMemory}
use Rattle.symbol_table.specs.Table.{Table, Includes, IsDeclared, HasName, HasTruthName, class_name}

-- P of the fault, where there is one
abbrev pub IfRefused : (FaultKind → Type 0) → SymbolError → Type 0
IfRefused P (Refused kind) = P kind
IfRefused P NoMemory = Unit {0}

-- the fault for which a declaration is refused: the name first, then its arity
abbrev pub RefusesDeclaration : Table → List ℕ → ℤ → FaultKind → Type 0
RefusesDeclaration table name arity Twice = HasName table name
RefusesDeclaration table name arity ArityPast =
    (¬ HasName table name) × ((arity <ℤ pos 0) ⊎ (pos most_arguments <ℤ arity))
RefusesDeclaration table name arity _ = ⊥

-- the class may not be included: it is already, or its symbols are declared
abbrev pub IsTaken : Table → SymbolClass → Type 0
IsTaken table class = Includes table class ⊎ ((class ≡ TruthValues) × HasTruthName table)

-- the fault for which an include is refused: a name of no class, or a class that may not be included
abbrev pub RefusesInclude : Table → List ℕ → FaultKind → Type 0
RefusesInclude table name UnknownClass = (class : SymbolClass) → name ≢ class_name class
RefusesInclude table name Twice = (class : SymbolClass) × (name ≡ class_name class) × IsTaken table class
RefusesInclude table name _ = ⊥

-- the fault for which a name with that many arguments is refused: it is declared with another number and not
-- with this one, or is not declared and no atom
abbrev pub RefusesUse : Table → List ℕ → ℕ → FaultKind → Type 0
RefusesUse table name args Unknown = (¬ HasName table name) × ((args ≢ 0) ⊎ (¬ Includes table Atoms))
RefusesUse table name args (WrongArity declared found) =
    ((number : ℕ) × IsDeclared table name number declared)
    × ((number : ℕ) → IsDeclared table name number args → ⊥) × (found ≡ args)
RefusesUse table name args _ = ⊥

-- the fault for which a variable is refused
abbrev pub RefusesVariable : Table → List (List ℕ) → List ℕ → FaultKind → Type 0
RefusesVariable table variables name VariableTwice = Contains variables name ⊎ HasName table name
RefusesVariable table variables name _ = ⊥
