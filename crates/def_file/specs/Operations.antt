-- The equation classes: their names, and what each needs.
use Rattle.std.specs.Prelude.{ℕ, List, [], ◌∷◌, codes}
use Rattle.std.specs.List.{AllByRecursion}
use Rattle.eq_base.specs.declared.rules.Op.{Op}
use Rattle.eq_base.specs.declared.rules.Op.TheVariants.{AddInt, SubInt, MultInt, DivInt, ModInt, EquInt, LessInt, EquAtom, EquStr, ConcatStr, LengthStr}
use Rattle.eq_base.specs.declared.meeting.SymbolClass.{SymbolClass}
use Rattle.eq_base.specs.declared.meeting.SymbolClass.TheVariants.{Numerals, Atoms, TruthValues, Strings}
use Rattle.symbol_table.specs.Table.{Declared, Table, IsDeclared, Includes}

-- the name of the class
abbrev pub operation_name : Op → List ℕ
operation_name AddInt = codes "addint"
operation_name SubInt = codes "subint"
operation_name MultInt = codes "multint"
operation_name DivInt = codes "divint"
operation_name ModInt = codes "modint"
operation_name EquInt = codes "equint"
operation_name LessInt = codes "lessint"
operation_name EquAtom = codes "equatom"
operation_name EquStr = codes "equstr"
operation_name ConcatStr = codes "concatstr"
operation_name LengthStr = codes "lengthstr"

-- the symbol at the root of its left sides, with its arity
abbrev pub operation_symbol : Op → Declared
operation_symbol AddInt = record { name = codes "add"; arity = 2 }
operation_symbol SubInt = record { name = codes "subtract"; arity = 2 }
operation_symbol MultInt = record { name = codes "multiply"; arity = 2 }
operation_symbol DivInt = record { name = codes "divide"; arity = 2 }
operation_symbol ModInt = record { name = codes "modulo"; arity = 2 }
operation_symbol EquInt = record { name = codes "equ"; arity = 2 }
operation_symbol LessInt = record { name = codes "less"; arity = 2 }
operation_symbol EquAtom = record { name = codes "equ"; arity = 2 }
operation_symbol EquStr = record { name = codes "equ"; arity = 2 }
operation_symbol ConcatStr = record { name = codes "concat"; arity = 2 }
operation_symbol LengthStr = record { name = codes "length"; arity = 1 }

-- the classes of its operands and of its values
abbrev pub operation_classes : Op → List SymbolClass
operation_classes AddInt = Numerals ∷ []
operation_classes SubInt = Numerals ∷ []
operation_classes MultInt = Numerals ∷ []
operation_classes DivInt = Numerals ∷ []
operation_classes ModInt = Numerals ∷ []
operation_classes EquInt = Numerals ∷ TruthValues ∷ []
operation_classes LessInt = Numerals ∷ TruthValues ∷ []
operation_classes EquAtom = Atoms ∷ TruthValues ∷ []
operation_classes EquStr = Strings ∷ TruthValues ∷ []
operation_classes ConcatStr = Strings ∷ []
operation_classes LengthStr = Strings ∷ Numerals ∷ []

-- its symbol is declared with its arity, and its classes are included
pub record HasNeeds (table : Table) (op : Op) : Type 0 where
  pub number : ℕ
  pub symbol : IsDeclared table (operation_symbol op).name number (operation_symbol op).arity
  pub classes : AllByRecursion (λ class. Includes table class) (operation_classes op)
