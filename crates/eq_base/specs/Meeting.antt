-- Which heads meet a cell, by the symbol classes and the classes of a file.
use Rattle.std.specs.Prelude.{ℕ, Bool, false, ◌==◌, ◌&&◌, nat_lt, List, if◌then◌else◌}
use Rattle.std.specs.List.{list_any}
use Rattle.std.specs.Ordering.{int_eq}
use Rattle.eq_base.specs.Pattern.{IsTested, Classes, Meets, Clash}
use Rattle.eq_base.specs.Cells.{kind_of}
use Rattle.eq_base.specs.ClassLists.{members_of}
use Rattle.eq_base.specs.declared.head.Head.{Head}
use Rattle.eq_base.specs.declared.head.Head.TheVariants.{Symbol, Numeral, Atom, Text}
use Rattle.eq_base.specs.declared.head.Cell.{Cell}
use Rattle.eq_base.specs.declared.meeting.SymbolClass.{SymbolClass}
use Rattle.eq_base.specs.declared.meeting.SymbolClass.TheVariants.{Numerals, Atoms, TruthValues, Strings}

-- the numbers of the symbol classes
abbrev pub class_number : SymbolClass → ℕ
class_number Numerals = 0
class_number Atoms = 1
class_number TruthValues = 2
class_number Strings = 3

-- which heads belong to the symbol class with a number; the truth values are the symbols 0 and 1
abbrev pub in_symbol_class : ℕ → Head → Bool
in_symbol_class class (Symbol s) = class == class_number TruthValues && nat_lt s 2
in_symbol_class class (Numeral n) = class == class_number Numerals
in_symbol_class class (Atom a) = class == class_number Atoms
in_symbol_class class (Text t) = class == class_number Strings

-- the heads are the same
abbrev pub same_head : Head → Head → Bool
same_head (Symbol s) (Symbol t) = s == t
same_head (Numeral n) (Numeral m) = int_eq n m
same_head (Atom a) (Atom b) = a == b
same_head (Text s) (Text t) = s == t
same_head one other = false

-- which heads belong to which class: those of the symbol class up to 3, and from 4 on those that the class of
-- the file lists
abbrev pub in_class_by : {H : Type 0} → Classes H → (H → H → Bool) → List (List H) → Classes H
in_class_by in_symbols same classes class h =
    if nat_lt class 4 then in_symbols class h else list_any (same h) (members_of classes class)

-- which heads belong to which class, in a file with these classes
abbrev pub in_class_of : List (List Head) → Classes Head
in_class_of classes = in_class_by in_symbol_class same_head classes

-- the cell is no plain variable
abbrev pub CellIsTested : Cell → Type 0
CellIsTested c = IsTested (kind_of c)

-- the head meets the cell
abbrev pub CellMeets : List (List Head) → Cell → Head → Type 0
CellMeets classes c h = Meets (in_class_of classes) (kind_of c) h

-- no head meets both cells
abbrev pub CellsClash : List (List Head) → Cell → Cell → Type 0
CellsClash classes c d = Clash (in_class_of classes) (kind_of c) (kind_of d)
