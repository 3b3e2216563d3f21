-- The decimal text of a whole number.
use Rattle.std.specs.Prelude.{◌≡◌, ℕ, suc, ◌<◌, List, ◌++◌, length, slice_index, codes, ℤ, pos, negsuc}
use Rattle.std.specs.Str.Parse.{AllDigits, digits_value}

-- the digits write this number, with no zero before them
pub record WritesSize (digits : List ℕ) (size : ℕ) : Type 0 where
  pub some : 0 < length digits
  pub all_digits : AllDigits 10 digits
  -- the first digit is `0` only where it is the only one
  pub shortest : slice_index digits 0 ≡ 48 → length digits ≡ 1
  pub value : digits_value 10 digits ≡ size

-- the text of a whole number: its digits, behind `-` where it is negative
abbrev pub IsDecimal : ℤ → List ℕ → Type 0
IsDecimal (pos n) text = WritesSize text n
IsDecimal (negsuc n) text = (digits : List ℕ) × (text ≡ codes "-" ++ digits) × WritesSize digits (suc n)
