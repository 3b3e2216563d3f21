-- The values of numerals and strings.
use Rattle.std.specs.Prelude.{◌≡◌, ℕ, ◌≤◌, Bool, true, List, [], ◌∷◌, length, ℤ, pos, neg_ℤ, ◌==◌, Ok}
use Rattle.std.specs.Prelude.{if◌then◌else◌}
use Rattle.std.specs.Str.Parse.{AllDigits, digits_value}
use Rattle.term_lex.specs.declared.token.Token.{Token}
use Rattle.term_lex.specs.declared.token.TokenKind.TheVariants.{Numeral, Text}
use Rattle.term_lex.specs.Tokens.{FirstToken, is_in_range}

-- the number of this sign and size
abbrev pub signed : Bool → ℕ → ℤ
signed negative size = if negative then neg_ℤ (pos size) else pos size

-- the number that the bytes write: digits, or `-` and digits
abbrev pub numeral_value : List ℕ → ℤ
numeral_value [] = pos 0
numeral_value (b ∷ bs) = if b == 45 then signed true (digits_value 10 bs) else pos (digits_value 10 (b ∷ bs))

-- digits of a number in range, behind `-` where it is negative
pub record IsSpelled (bytes : List ℕ) (negative : Bool) (digits : List ℕ) : Type 0 where
  pub bytes_are : bytes ≡ (if negative then 45 ∷ digits else digits)
  pub all_digits : AllDigits 10 digits
  pub in_range : is_in_range negative (digits_value 10 digits) ≡ true

-- the bytes are a numeral
abbrev pub IsNumeral : List ℕ → Type 0
IsNumeral bytes = (negative : Bool) × (digits : List ℕ) × IsSpelled bytes negative digits

-- the token stands in the text
abbrev pub IsTokenOf : List ℕ → Token → Type 0
IsTokenOf text t = (at : ℕ) × (at ≤ length text) × FirstToken text at (Ok t)

-- it is a numeral
abbrev pub IsNumeralOf : List ℕ → Token → Type 0
IsNumeralOf text t = IsTokenOf text t × (t.kind ≡ Numeral)

-- it is a string
abbrev pub IsStringOf : List ℕ → Token → Type 0
IsStringOf text t = IsTokenOf text t × (t.kind ≡ Text)
