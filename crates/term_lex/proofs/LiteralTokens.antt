-- The bytes of numerals and strings that stand in a text.
use Rattle.std.proofs.Common.{◌≡◌, ℕ, suc, ◌+◌, ◌-◌, ◌≤◌, Bool, true, false, cond, List, [], ◌∷◌, ◌++◌, length, take, drop, arith, Option, Some, None, Result, Ok, Err, inl, inr, refl, sym, ap, ◌∙◌, subst}
use Rattle.std.specs.Prelude.{IfOk, ◌==◌, nat_lt, slice_range}
use Rattle.std.specs.Str.Parse.{digits_value}
use Rattle.std.specs.List.{prefix_len}
use Rattle.std.specs.Char.{is_ascii_digit}
use Rattle.std.proofs.lemmas.Bool.{eqb-true}
use Rattle.term_lex.specs.declared.token.Token.{Token}
use Rattle.term_lex.specs.declared.token.TokenKind.{TokenKind}
use Rattle.term_lex.specs.declared.token.TokenKind.TheVariants.{Name, Numeral, Text, OpenRound, CloseRound, OpenSquare, CloseSquare, Comma, Semicolon, Colon, Dot, Equals}
use Rattle.term_lex.specs.declared.fault.Fault.{Fault}
use Rattle.term_lex.specs.declared.fault.FaultKind.TheVariants.{BadByte, NumeralPast, NameLong}
use Rattle.term_lex.specs.Bytes.{is_name_start, is_name_byte, sign_of}
use Rattle.term_lex.specs.Strings.{spelled, IsString}
use Rattle.term_lex.specs.Tokens.{token, fault, name_of, is_in_range, numeral_of, minus_of, one_byte, plain_token}
use Rattle.term_lex.specs.Values.{IsNumeral, IsTokenOf, IsNumeralOf, IsStringOf}
use Rattle.term_lex.proofs.Tokens.{token_within, text_token}
use Rattle.term_lex.proofs.Digits.{all_digits_front}

-- what is known of a token, where it is one of these two kinds: it begins with these bytes
abbrev Known : ℕ → List ℕ → Token → Type 0
Known from bytes t = (t.kind ≡ Numeral → (t.from ≡ from) × IsNumeral (take (t.to - t.from) bytes)) × (t.kind ≡ Text → ⊥)

-- a token of another kind
abbrev Other : Token → Type 0
Other t = (t.kind ≡ Numeral → ⊥) × (t.kind ≡ Text → ⊥)

module _ (P : Token → Type 0) where
  either : (c : Bool) (r s : Result Token Fault) → (c ≡ true → IfOk r P) → (c ≡ false → IfOk s P) → IfOk (cond c r s) P
  either true r s f g = f refl
  either false r s f g = g refl

known : (from : ℕ) (bytes : List ℕ) (r : Result Token Fault) → IfOk r Other → IfOk r (Known from bytes)
known from bytes (Ok t) h = (λ e. absurd (h.0 e), h.1)
known from bytes (Err f) h = tt

other_name : (from : ℕ) (bytes : List ℕ) → IfOk (name_of from bytes) Other
other_name from bytes =
    let len = prefix_len is_name_byte bytes in
    either Other (nat_lt 255 len) (fault NameLong from) (token Name from len) (λ _. tt) (λ _. (λ e. cc, λ e. cc))

-- a sign that is neither
abbrev IsOtherSign : Option TokenKind → Type 0
IsOtherSign (Some k) = (k ≡ Numeral → ⊥) × (k ≡ Text → ⊥)
IsOtherSign None = Unit {0}

sign_or : (c : Bool) (k : TokenKind) (o : Option TokenKind) → IsOtherSign (Some k) → IsOtherSign o → IsOtherSign (cond c (Some k) o)
sign_or true k o f g = f
sign_or false k o f g = g

other_sign : (b : ℕ) → IsOtherSign (sign_of b)
other_sign b =
    sign_or (b == 40) OpenRound _ (λ e. cc, λ e. cc) (sign_or (b == 41) CloseRound _ (λ e. cc, λ e. cc) (sign_or (b == 91) OpenSquare _ (λ e. cc, λ e. cc)
    (sign_or (b == 93) CloseSquare _ (λ e. cc, λ e. cc) (sign_or (b == 44) Comma _ (λ e. cc, λ e. cc) (sign_or (b == 59) Semicolon _ (λ e. cc, λ e. cc)
    (sign_or (b == 58) Colon _ (λ e. cc, λ e. cc) (sign_or (b == 46) Dot _ (λ e. cc, λ e. cc) (sign_or (b == 61) Equals None (λ e. cc, λ e. cc) tt))))))))

other_one : (from : ℕ) (o : Option TokenKind) → IsOtherSign o → IfOk (one_byte from o) Other
other_one from (Some k) h = h
other_one from None h = tt

-- the digits at the front, behind a sign of `sign_len` bytes
known_numeral : (negative : Bool) (from sign_len : ℕ) (bs bytes : List ℕ) → ((n : ℕ) → take (sign_len + n) bytes ≡ cond negative (45 ∷ take n bs) (take n bs)) → IfOk (numeral_of negative from sign_len bs) (Known from bytes)
known_numeral negative from sign_len bs bytes fronts =
    let len = prefix_len is_ascii_digit bs in
    let size = digits_value 10 (take len bs) in
    let span : from + (sign_len + len) - from ≡ sign_len + len = omega arith in
    either (Known from bytes) (is_in_range negative size) (token Numeral from (sign_len + len)) (fault NumeralPast from)
    (λ h. (λ e. (refl, (negative, take len bs, record { bytes_are = ap (λ n. take n bytes) span ∙ fronts len; all_digits = all_digits_front bs; in_range = h })), λ e. cc)) (λ _. tt)

plain_front : (bs : List ℕ) (n : ℕ) → take (0 + n) bs ≡ take n bs
plain_front bs n = let e : 0 + n ≡ n = omega arith in ap (λ m. take m bs) e

minus_front : (bs : List ℕ) (n : ℕ) → take (1 + n) (45 ∷ bs) ≡ 45 ∷ take n bs
minus_front bs n = let e : 1 + n ≡ suc n = omega arith in ap (λ m. take m (45 ∷ bs)) e

known_plain : (from : ℕ) (bs : List ℕ) → IfOk (plain_token from bs) (Known from bs)
known_plain from [] = (λ e. cc, λ e. cc)
known_plain from (b ∷ bs) =
    let bytes = b ∷ bs in
    let name = name_of from bytes in
    let numeral = numeral_of false from 0 bytes in
    let minus = minus_of from bs in
    let sign = one_byte from (sign_of b) in
    either (Known from bytes) (is_name_start b) name (cond (is_ascii_digit b) numeral (cond (b == 45) minus sign)) (λ _. known from bytes name (other_name from bytes))
    (λ _. either (Known from bytes) (is_ascii_digit b) numeral (cond (b == 45) minus sign) (λ _. known_numeral false from 0 bytes bytes (plain_front bytes))
    (λ _. either (Known from bytes) (b == 45) minus sign
    (λ h. let is_minus : 45 ≡ b = sym (eqb-true b 45 h) in subst (λ c. IfOk minus (Known from (c ∷ bs))) is_minus
    (either (Known from (45 ∷ bs)) (prefix_len is_ascii_digit bs == 0) (fault BadByte from) (numeral_of true from 1 bs) (λ _. tt) (λ _. known_numeral true from 1 bs (45 ∷ bs) (minus_front bs))))
    (λ _. known from bytes sign (other_one from (sign_of b) (other_sign b)))))

-- the bytes of a numeral that stands in the text
pub numeral_bytes : (text : List ℕ) (t : Token) → IsNumeralOf text t → IsNumeral (slice_range text t.from t.to)
numeral_bytes text t ((at, le, first), is) = elim first.begins [
  | inl s ↦ absurd (let no = (text_token (at + first.gap) (drop (at + first.gap) text) t s).token_is in cc)
  | inr p ↦
      let from = at + first.gap in
      let k = (subst (λ r. IfOk r (Known from (drop from text))) (sym p.1) (known_plain from (drop from text))).0 is in
      subst (λ n. IsNumeral (take (t.to - t.from) (drop n text))) (sym k.0) k.1
]

-- the front that ends at the closing quote
quoted_front : (xs more : List ℕ) → take (length xs + 1) (xs ++ 34 ∷ more) ≡ xs ++ 34 ∷ []
quoted_front [] more = refl
quoted_front (x ∷ xs) more = let e : length (x ∷ xs) + 1 ≡ suc (length xs + 1) = omega arith in ap (λ n. take n (x ∷ (xs ++ 34 ∷ more))) e ∙ ap (λ ys. x ∷ ys) (quoted_front xs more)

-- the bytes of a string that stands in the text
pub string_bytes : (text : List ℕ) (t : Token) → IsStringOf text t → (value : List ℕ) × IsString (slice_range text t.from t.to) value
string_bytes text t ((at, le, first), is) = elim first.begins [
  | inl s ↦
      let from = at + first.gap in
      let text_is = text_token from (drop from text) t s in
      let xs = spelled text_is.value in
      let long : from + (length xs + 2) - from ≡ suc (length xs + 1) = omega arith in
      let front : take (from + (length xs + 2) - from) (drop from text) ≡ 34 ∷ (xs ++ 34 ∷ []) =
      ap (λ n. take n (drop from text)) long ∙ ap (take (suc (length xs + 1))) text_is.bytes_are ∙ ap (λ ys. 34 ∷ ys) (quoted_front xs text_is.more) in
      (text_is.value, record { quoted = ap (λ (u : Token). slice_range text u.from u.to) text_is.token_is ∙ front; holds = text_is.holds })
  | inr p ↦
      let from = at + first.gap in
      absurd ((subst (λ r. IfOk r (Known from (drop from text))) (sym p.1) (known_plain from (drop from text))).1 is)
]

-- a token lies in the text
pub within_text : (text : List ℕ) (t : Token) → IsTokenOf text t → (t.from ≤ t.to) × (t.to ≤ length text)
within_text text t (at, le, first) = let w = token_within text at (Ok t) le first in (w.ordered, w.ends)
