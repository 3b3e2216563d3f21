-- The first token of a text.
use Rattle.std.specs.Prelude.{◌≡◌, ℕ, ◌+◌, ◌^◌, Bool, true, false, ◌==◌, List, [], ◌∷◌, ◌++◌, length, take}
use Rattle.std.specs.Prelude.{drop, slice_index_or, Option, Some, None, Result, Ok, Err, nat_lt}
use Rattle.std.specs.Prelude.{if◌then◌else◌, ◌<◌, ◌≤◌, ◌⊎◌}
use Rattle.std.specs.List.{prefix_len}
use Rattle.std.specs.Char.{is_ascii_digit}
use Rattle.std.specs.Str.Parse.{digits_value}
use Rattle.eq_base.specs.Limits.{most_text_bytes}
use Rattle.term_lex.specs.declared.token.Token.{Token}
use Rattle.term_lex.specs.declared.token.TokenKind.{TokenKind}
use Rattle.term_lex.specs.declared.token.TokenKind.TheVariants.{Name, Numeral, Text, End}
use Rattle.term_lex.specs.declared.fault.Fault.{Fault}
use Rattle.term_lex.specs.declared.fault.FaultKind.{FaultKind}
use Rattle.term_lex.specs.declared.fault.FaultKind.TheVariants.{BadByte, OpenString, BadEscape, NumeralPast}
use Rattle.term_lex.specs.declared.fault.FaultKind.TheVariants.{NameLong, StringLong}
use Rattle.term_lex.specs.Bytes.{is_name_start, is_name_byte, is_plain, is_escape, sign_of}
use Rattle.term_lex.specs.Gaps.{IsGap}
use Rattle.term_lex.specs.Strings.{spelled, AreTextBytes}

-- a token of so many bytes
abbrev pub token : TokenKind → ℕ → ℕ → Result Token Fault
token kind from len = Ok (record { kind = kind; from = from; to = from + len })

-- a fault at a byte
abbrev pub fault : FaultKind → ℕ → Result Token Fault
fault kind byte = Err (record { kind = kind; byte = byte })

-- the most bytes of a name
abbrev pub most_name_bytes : ℕ
most_name_bytes = 255

-- the bytes are a name: a letter or `_`, then letters, digits and `_`, not too many of them
pub record IsName (bytes : List ℕ) : Type 0 where
  pub starts : is_name_start (slice_index_or bytes 0 0) ≡ true
  pub goes_on : prefix_len is_name_byte bytes ≡ length bytes
  pub fits : length bytes ≤ most_name_bytes

-- a name takes as many bytes as it can, and may have no more than the limit
abbrev pub name_of : ℕ → List ℕ → Result Token Fault
name_of from bytes =
    let len = prefix_len is_name_byte bytes in
    if nat_lt most_name_bytes len then fault NameLong from else token Name from len

-- the numbers from -2^127 to 2^127 - 1, by their sign and size
abbrev pub is_in_range : Bool → ℕ → Bool
is_in_range negative size = nat_lt size (if negative then 2 ^ 127 + 1 else 2 ^ 127)

-- a numeral takes as many digits as it can; sign_len bytes stand before them
abbrev pub numeral_of : Bool → ℕ → ℕ → List ℕ → Result Token Fault
numeral_of negative from sign_len bytes =
    let len = prefix_len is_ascii_digit bytes in
    if is_in_range negative (digits_value 10 (take len bytes))
    then token Numeral from (sign_len + len) else fault NumeralPast from

-- `-` is no token of its own
abbrev pub minus_of : ℕ → List ℕ → Result Token Fault
minus_of from bytes =
    if prefix_len is_ascii_digit bytes == 0 then fault BadByte from else numeral_of true from 1 bytes

-- a token of one byte
abbrev pub one_byte : ℕ → Option TokenKind → Result Token Fault
one_byte from (Some kind) = token kind from 1
one_byte from None = fault BadByte from

-- the token that begins at `from`, where these are the bytes from there on and the first is no quote
abbrev pub plain_token : ℕ → List ℕ → Result Token Fault
plain_token from [] = token End from 0
plain_token from (b ∷ bs) =
    if is_name_start b then name_of from (b ∷ bs)
    else (if is_ascii_digit b then numeral_of false from 0 (b ∷ bs)
    else (if b == 45 then minus_of from bs
    else one_byte from (sign_of b)))

-- what a backslash comes to, `len` bytes behind the string's first, if it begins no escape before these bytes
abbrev pub escape_end : ℕ → ℕ → List ℕ → Option (Result Token Fault)
escape_end from len [] = Some (fault OpenString from)
escape_end from len (b ∷ bs) =
    if is_escape b then None
    else (if b == 10 then Some (fault OpenString from)
    else Some (fault BadEscape (from + len)))

-- what the string from `from` on comes to, `len` bytes behind its first, if none of its elements begins these
-- bytes
abbrev pub string_end : ℕ → ℕ → List ℕ → Option (Result Token Fault)
string_end from len [] = Some (fault OpenString from)
string_end from len (b ∷ bs) =
    if b == 34 then Some (token Text from (len + 1))
    else (if b == 10 then Some (fault OpenString from)
    else (if b == 92 then escape_end from len bs
    else (if is_plain b then None
    else Some (fault BadByte (from + len)))))

-- a quote, then elements for the bytes of a value; the 65,536th is one too many, else the string ends where
-- no other element follows
pub record BeginsString (from : ℕ) (bytes : List ℕ) (answer : Result Token Fault) : Type 0 where
  pub value : List ℕ
  pub rest : List ℕ
  pub quoted : bytes ≡ 34 ∷ (spelled value ++ rest)
  pub holds : AreTextBytes value
  pub ends :
      ((length value ≡ most_text_bytes + 1) × (answer ≡ fault StringLong from))
      ⊎ ((length value ≤ most_text_bytes) × (string_end from (1 + length (spelled value)) rest ≡ Some answer))

-- the first byte is a quote
abbrev pub IsQuoted : List ℕ → Type 0
IsQuoted bytes = (bs : List ℕ) × (bytes ≡ 34 ∷ bs)

-- what the bytes, which stand at `from`, begin with: a string or another token, or the fault of one
abbrev pub Begins : ℕ → List ℕ → Result Token Fault → Type 0
Begins from bytes answer =
    BeginsString from bytes answer ⊎ ((¬ IsQuoted bytes) × (answer ≡ plain_token from bytes))

-- the first token of a text from `at` on, or its fault, behind blanks and comments
pub record FirstToken (text : List ℕ) (at : ℕ) (answer : Result Token Fault) : Type 0 where
  pub gap : ℕ
  pub skipped : IsGap (drop at text) gap
  pub begins : Begins (at + gap) (drop (at + gap) text) answer

-- the token has at least one byte, but for the end, and ends within the bytes
pub record IsWithin (from end : ℕ) (t : Token) : Type 0 where
  pub starts : from ≤ t.from
  pub ordered : t.from ≤ t.to
  pub ends : t.to ≤ end
  pub advances : (t.kind ≡ End → ⊥) → t.from < t.to
