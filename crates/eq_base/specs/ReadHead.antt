-- Heads as they are read: an atom and a string are their bytes, whatever numbers they have.
use Rattle.std.specs.Prelude.{ℕ, ℤ, Bool, false, ◌==◌, ◌&&◌, nat_lt, List, bytes_eq}
use Rattle.std.specs.Ordering.{int_eq}
use Rattle.eq_base.specs.Pattern.{Classes}
use Rattle.eq_base.specs.Meeting.{class_number, in_class_by}
use Rattle.eq_base.specs.declared.meeting.SymbolClass.TheVariants.{Numerals, Atoms, TruthValues, Strings}

-- a declared symbol by its number, a numeral by its value, an atom and a string by their bytes
pub data ReadHead : Type 0 where
  symbol : (number : ℕ) → ReadHead
  numeral : (value : ℤ) → ReadHead
  atom : (bytes : List ℕ) → ReadHead
  text : (bytes : List ℕ) → ReadHead

-- which heads belong to the symbol class with a number; the truth values are the symbols 0 and 1
abbrev pub in_read_symbol_class : ℕ → ReadHead → Bool
in_read_symbol_class class (symbol s) = class == class_number TruthValues && nat_lt s 2
in_read_symbol_class class (numeral i) = class == class_number Numerals
in_read_symbol_class class (atom a) = class == class_number Atoms
in_read_symbol_class class (text t) = class == class_number Strings

-- the heads are the same
abbrev pub same_read_head : ReadHead → ReadHead → Bool
same_read_head (symbol s) (symbol t) = s == t
same_read_head (numeral n) (numeral m) = int_eq n m
same_read_head (atom a) (atom b) = bytes_eq a b
same_read_head (text s) (text t) = bytes_eq s t
same_read_head one other = false

-- which heads belong to which class, in a file with these classes
abbrev pub in_read_class : List (List ReadHead) → Classes ReadHead
in_read_class classes = in_class_by in_read_symbol_class same_read_head classes
