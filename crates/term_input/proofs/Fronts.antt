-- Lexemes that end with a dot stay the same where the text goes on behind it.
use Rattle.std.proofs.Common.{◌≡◌, ◌⊎◌, ℕ, suc, ◌+◌, ◌-◌, ◌<◌, ◌≤◌, Bool, true, false, cond, List, [], ◌∷◌, ◌++◌, length, take, drop, arith, Some, Ok, inl, inr, refl, sym, ap, ◌∙◌, subst, length-drop, append_assoc}
use Rattle.std.specs.Prelude.{nat_lt, ◌==◌}
use Rattle.std.specs.List.{prefix_len}
use Rattle.std.specs.Char.{is_ascii_digit}
use Rattle.std.specs.Str.Parse.{digits_value}
use Rattle.std.proofs.lemmas.List.{drop-append-le, take-append-le}
use Rattle.std.proofs.lemmas.List.Sums.{prefix_len-le-length}
use Rattle.term_lex.specs.declared.token.Token.{Token}
use Rattle.term_lex.specs.declared.token.TokenKind.{TokenKind}
use Rattle.term_lex.specs.declared.token.TokenKind.TheVariants.{Name, Numeral, End, Dot}
use Rattle.term_lex.specs.declared.fault.FaultKind.{FaultKind}
use Rattle.term_lex.specs.declared.fault.FaultKind.TheVariants.{BadByte, NumeralPast, NameLong, StringLong}
use Rattle.term_lex.specs.Bytes.{is_name_start, is_name_byte, sign_of}
use Rattle.term_lex.specs.Gaps.{IsGap}
use Rattle.term_lex.specs.Strings.{spelled}
use Rattle.term_lex.specs.Tokens.{token, fault, name_of, is_in_range, numeral_of, minus_of, one_byte, plain_token, string_end, BeginsString, IsQuoted, Begins, FirstToken}
use Rattle.term_lex.specs.Lexemes.{Lexeme, FirstLexeme, Scans}
use Rattle.term_lex.specs.Parts.{IsKind}
use Rattle.term_lex.proofs.Tokens.{string_token, token_within}
use Rattle.term_input.proofs.Gaps.{gap_front}

-- the token ends before so many bytes, or is a dot
abbrev EndsBefore : Token → ℕ → Type 0
EndsBefore t end = (t.to < end) ⊎ (t.kind ≡ Dot)

prefix_front : (p : ℕ → Bool) (xs ys : List ℕ) → prefix_len p xs < length xs → prefix_len p (xs ++ ys) ≡ prefix_len p xs
prefix_front p [] ys lt = absurd (omega (arith, lt))
prefix_front p (x ∷ xs) ys lt = go (p x) lt (prefix_front p xs ys)
  where
    go : (b : Bool) → cond b (1 + prefix_len p xs) 0 < suc (length xs) → (prefix_len p xs < length xs → prefix_len p (xs ++ ys) ≡ prefix_len p xs) → cond b (1 + prefix_len p (xs ++ ys)) 0 ≡ cond b (1 + prefix_len p xs) 0
    go true short more = ap (λ n. 1 + n) (more (omega (arith, short)))
    go false short more = refl

-- the token of a word, where its value is in range
token_of : (c : Bool) (kind : TokenKind) (bad : FaultKind) (from len : ℕ) (t : Token) → cond c (token kind from len) (fault bad from) ≡ Ok t → t ≡ record { kind = kind; from = from; to = from + len }
token_of true kind bad from len t e = cc (e)
token_of false kind bad from len t e = cc (e)

token_unless : (c : Bool) (kind : TokenKind) (bad : FaultKind) (from len : ℕ) (t : Token) → cond c (fault bad from) (token kind from len) ≡ Ok t → t ≡ record { kind = kind; from = from; to = from + len }
token_unless true kind bad from len t e = cc (e)
token_unless false kind bad from len t e = cc (e)

-- where such a token is no dot, it is shorter than the bytes
word_short : (kind : TokenKind) (from len end : ℕ) (t : Token) → (kind ≡ Dot → ⊥) → t ≡ record { kind = kind; from = from; to = from + len } → EndsBefore t (from + end) → len < end
word_short kind from len end t other is (inl lt) = omega (arith, lt, ap (λ u. u.to) is)
word_short kind from len end t other is (inr dot) = absurd (other (sym (ap (λ u. u.kind) is) ∙ dot))

name_front : (from : ℕ) (bytes more : List ℕ) (t : Token) → name_of from bytes ≡ Ok t → EndsBefore t (from + length bytes) → name_of from (bytes ++ more) ≡ Ok t
name_front from bytes more t e ends =
    let len = prefix_len is_name_byte bytes in
    let is = token_unless (nat_lt 255 len) Name NameLong from len t e in
    let short : len < length bytes = word_short Name from len (length bytes) t (λ no. cc (no)) is ends in
    ap (λ n. cond (nat_lt 255 n) (fault NameLong from) (token Name from n)) (prefix_front is_name_byte bytes more short) ∙ e

numeral_front : (negative : Bool) (from sign_len : ℕ) (bytes more : List ℕ) (t : Token) → numeral_of negative from sign_len bytes ≡ Ok t → EndsBefore t (from + (sign_len + length bytes)) → (numeral_of negative from sign_len (bytes ++ more) ≡ Ok t) × (prefix_len is_ascii_digit (bytes ++ more) ≡ prefix_len is_ascii_digit bytes)
numeral_front negative from sign_len bytes more t e ends =
    let len = prefix_len is_ascii_digit bytes in
    let is = token_of (is_in_range negative (digits_value 10 (take len bytes))) Numeral NumeralPast from (sign_len + len) t e in
    let short = word_short Numeral from (sign_len + len) (sign_len + length bytes) t (λ no. cc (no)) is ends in
    let same = prefix_front is_ascii_digit bytes more (omega (arith, short)) in
    let digits : take (prefix_len is_ascii_digit (bytes ++ more)) (bytes ++ more) ≡ take len bytes = ap (λ n. take n (bytes ++ more)) same ∙ take-append-le len bytes more (prefix_len-le-length is_ascii_digit bytes) in (
      ap (λ n. cond (is_in_range negative (digits_value 10 (take (prefix_len is_ascii_digit (bytes ++ more)) (bytes ++ more)))) (token Numeral from (sign_len + n)) (fault NumeralPast from)) same
          ∙ ap (λ ds. cond (is_in_range negative (digits_value 10 ds)) (token Numeral from (sign_len + len)) (fault NumeralPast from)) digits ∙ e,
      same,
    )

minus_front : (from : ℕ) (bytes more : List ℕ) (t : Token) → minus_of from bytes ≡ Ok t → EndsBefore t (from + (1 + length bytes)) → minus_of from (bytes ++ more) ≡ Ok t
minus_front from bytes more t e ends = go (prefix_len is_ascii_digit bytes == 0) refl e
  where
    go : (none : Bool) → (prefix_len is_ascii_digit bytes == 0) ≡ none → cond none (fault BadByte from) (numeral_of true from 1 bytes) ≡ Ok t → minus_of from (bytes ++ more) ≡ Ok t
    go true is e = let no : fault BadByte from ≡ Ok t = e in cc (no)
    go false is e =
        let (front, same) = numeral_front true from 1 bytes more t e ends in
        ap (λ n. cond (n == 0) (fault BadByte from) (numeral_of true from 1 (bytes ++ more))) same ∙ ap (λ c. cond c (fault BadByte from) (numeral_of true from 1 (bytes ++ more))) is ∙ front

-- the same end, said by another number
ends_at : (t : Token) (m n : ℕ) → m ≡ n → EndsBefore t m → EndsBefore t n
ends_at t m n same ends = subst (EndsBefore t) same ends

plain_front : (from b : ℕ) (bs more : List ℕ) (t : Token) → plain_token from (b ∷ bs) ≡ Ok t → EndsBefore t (from + suc (length bs)) → plain_token from (b ∷ (bs ++ more)) ≡ Ok t
plain_front from b bs more t e ends = go (is_name_start b) (is_ascii_digit b) (b == 45) e
  where
    go : (name digit minus : Bool) → cond name (name_of from (b ∷ bs)) (cond digit (numeral_of false from 0 (b ∷ bs)) (cond minus (minus_of from bs) (one_byte from (sign_of b)))) ≡ Ok t → cond name (name_of from (b ∷ (bs ++ more))) (cond digit (numeral_of false from 0 (b ∷ (bs ++ more))) (cond minus (minus_of from (bs ++ more)) (one_byte from (sign_of b)))) ≡ Ok t
    go true digit minus e = name_front from (b ∷ bs) more t e ends
    go false true minus e = (numeral_front false from 0 (b ∷ bs) more t e (ends_at t (from + suc (length bs)) (from + (0 + length (b ∷ bs))) (omega arith) ends)).0
    go false false true e = minus_front from bs more t e (ends_at t (from + suc (length bs)) (from + (1 + length bs)) (omega arith) ends)
    go false false false e = e

string_front : (from : ℕ) (bytes more : List ℕ) (t : Token) → BeginsString from bytes (Ok t) → BeginsString from (bytes ++ more) (Ok t)
string_front from bytes more t s = record {
  value = s.value;
  rest = s.rest ++ more;
  quoted = ap (λ bs. bs ++ more) s.quoted ∙ ap (λ bs. 34 ∷ bs) (append_assoc (spelled s.value) s.rest more);
  holds = s.holds;
  ends = elim s.ends [
    | inl (long, is) ↦ absurd (let no : Ok t ≡ fault StringLong from = is in cc (no))
    | inr (short, end) ↦ inr (short, quote_stays end)
  ];
}
  where
    quote_stays : string_end from (1 + length (spelled s.value)) s.rest ≡ Some (Ok t) → string_end from (1 + length (spelled s.value)) (s.rest ++ more) ≡ Some (Ok t)
    quote_stays end =
        let (is, (behind, quote)) = string_token from (1 + length (spelled s.value)) s.rest t end in
        ap (λ r. string_end from (1 + length (spelled s.value)) (r ++ more)) quote ∙ subst (λ r. string_end from (1 + length (spelled s.value)) r ≡ Some (Ok t)) quote end

no_end : (from : ℕ) (t : Token) → Ok t ≡ plain_token from [] → EndsBefore t (from + 0) → ⊥
no_end from t e (inl lt) = let is : t ≡ record { kind = End; from = from; to = from + 0 } = cc (e) in omega (arith, lt, ap (λ u. u.to) is)
no_end from t e (inr dot) = let is : t ≡ record { kind = End; from = from; to = from + 0 } = cc (e) in let kind : End ≡ Dot = sym (ap (λ u. u.kind) is) ∙ dot in cc (kind)

begins_front : (from : ℕ) (bytes more : List ℕ) (t : Token) → Begins from bytes (Ok t) → EndsBefore t (from + length bytes) → (0 < length bytes) × Begins from (bytes ++ more) (Ok t)
begins_front from [] more t (inl s) ends = let no = s.quoted in cc (no)
begins_front from [] more t (inr (plain, e)) ends = absurd (no_end from t e ends)
begins_front from (b ∷ bs) more t (inl s) ends = (omega arith, inl (string_front from (b ∷ bs) more t s))
begins_front from (b ∷ bs) more t (inr (plain, e)) ends = (omega arith, inr (no_quote, sym (plain_front from b bs more t (sym e) ends)))
  where
    no_quote : IsQuoted (b ∷ (bs ++ more)) → ⊥
    no_quote (others, quoted) = plain (bs, (let first : b ≡ 34 = cc (quoted) in ap (λ c. c ∷ bs) first))

-- ---- tokens and lexemes

module _ (text more : List ℕ) where
  token_front : (at : ℕ) (t : Token) → FirstToken text at (Ok t) → EndsBefore t (length text) → (at < length text) × FirstToken (text ++ more) at (Ok t)
  token_front at t first ends =
      let from = at + first.gap in
      let (some, begins) = begins_front from (drop from text) more t first.begins (within from ends) in
      let inside : from < length text = omega (arith, some, length-drop from text) in
      let gap = gap_front (drop at text) more first.gap (omega (arith, inside, length-drop at text)) first.skipped in (
        omega (arith, inside),
        record {
          gap = first.gap;
          skipped = subst (λ bs. IsGap bs first.gap) (sym (drop-append-le at text more (omega (arith, inside)))) gap;
          begins = subst (λ bs. Begins from bs (Ok t)) (sym (drop-append-le from text more (omega (arith, inside)))) begins;
        },
      )
    where
      within : (from : ℕ) → EndsBefore t (length text) → EndsBefore t (from + length (drop from text))
      within from (inl lt) = inl (omega (arith, lt, length-drop from text))
      within from (inr dot) = inr dot

  lexeme_front : (at : ℕ) (x : Lexeme) → at ≤ length text → FirstLexeme text at (Ok x) → EndsBefore x.token (length text) → (at < length text) × FirstLexeme (text ++ more) at (Ok x)
  lexeme_front at x le (first, is) ends =
      let (inside, longer) = token_front at x.token first ends in
      let within = token_within text at (Ok x.token) le first in
      let ordered = within.ordered in
      let fits = within.ends in
      let starts : drop x.token.from (text ++ more) ≡ drop x.token.from text ++ more = drop-append-le x.token.from text more (omega (arith, ordered, fits)) in
      let bytes : take (x.token.to - x.token.from) (drop x.token.from (text ++ more)) ≡ take (x.token.to - x.token.from) (drop x.token.from text) =
      ap (take (x.token.to - x.token.from)) starts ∙ take-append-le (x.token.to - x.token.from) (drop x.token.from text) more (omega (arith, fits, length-drop x.token.from text)) in
      (inside, (longer, is ∙ ap (λ bs. record { token = x.token; bytes = bs }) (sym bytes)))

  -- lexemes of which the last is a dot
  pub scans_front : (at : ℕ) (xs : List Lexeme) (d : Lexeme) (end : ℕ) → at ≤ length text → IsKind Dot d → Scans text at (xs ++ d ∷ []) end → (at < length text) × Scans (text ++ more) at (xs ++ d ∷ []) end
  scans_front at [] d end le dot (first, e) = let (inside, longer) = lexeme_front at d le first (inr dot) in (inside, (longer, e))
  scans_front at (x ∷ xs) d end le dot (first, rest) =
      let within = token_within text at (Ok x.token) le first.0 in
      let (behind, others) = scans_front x.token.to xs d end within.ends dot rest in
      let (inside, longer) = lexeme_front at x le first (inl behind) in
      (inside, (longer, others))
