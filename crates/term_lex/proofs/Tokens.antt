-- A text has one first token from a place on, and it ends within the text.
use Rattle.std.proofs.Common.{◌≡◌, ℕ, ◌+◌, ◌<◌, ◌≤◌, Bool, true, false, cond, List, [], ◌∷◌, ◌++◌, length, take, drop, arith, Option, Some, None, Result, Ok, Err, ◌⊎◌, inl, inr, refl, sym, ap, ◌∙◌, subst, length-drop, length-append, append_assoc}
use Rattle.std.specs.Prelude.{IfOk, nat_lt, ◌==◌}
use Rattle.std.specs.List.{prefix_len}
use Rattle.std.specs.Char.{is_ascii_digit}
use Rattle.std.specs.Str.Parse.{digits_value}
use Rattle.std.proofs.lemmas.Bool.{or_left, eqb-true}
use Rattle.std.proofs.lemmas.Option.{none-some}
use Rattle.std.proofs.lemmas.Result.{IfOk-weaker}
use Rattle.std.proofs.lemmas.List.Sums.{prefix_len-le-length}
use Rattle.eq_base.proofs.Lists.{all_back}
use Rattle.term_lex.specs.declared.token.Token.{Token}
use Rattle.term_lex.specs.declared.token.TokenKind.{TokenKind}
use Rattle.term_lex.specs.declared.token.TokenKind.TheVariants.{Name, Numeral, Text}
use Rattle.term_lex.specs.declared.fault.Fault.{Fault}
use Rattle.term_lex.specs.declared.fault.FaultKind.TheVariants.{BadByte, NumeralPast, NameLong, StringLong}
use Rattle.term_lex.specs.Bytes.{is_name_start, is_name_byte, is_text_byte, is_plain, is_escape, sign_of}
use Rattle.term_lex.specs.Strings.{written, spelled, AreTextBytes}
use Rattle.term_lex.specs.Tokens.{token, fault, name_of, is_in_range, numeral_of, minus_of, one_byte, plain_token, escape_end, string_end, BeginsString, Begins, FirstToken, IsWithin}
use Rattle.term_lex.proofs.Gaps.{one_gap}
use Rattle.term_lex.proofs.Elements.{no_end_at_element}
use Rattle.term_lex.proofs.Strings.{same_element}

-- Two ways to read elements at the front of the same bytes: they agree as far as both go.
data Compared (value other rest left : List ℕ) : Type 0 where
  Same : value ≡ other → rest ≡ left → Compared value other rest left
  Further : (b : ℕ) (more : List ℕ) → other ≡ value ++ b ∷ more → rest ≡ written b ++ (spelled more ++ left) → Compared value other rest left
  Shorter : (b : ℕ) (more : List ℕ) → value ≡ other ++ b ∷ more → left ≡ written b ++ (spelled more ++ rest) → Compared value other rest left

compare : (value other rest left : List ℕ) → spelled value ++ rest ≡ spelled other ++ left → Compared value other rest left
compare [] [] rest left e = Same refl e
compare [] (c ∷ other) rest left e = Further c other refl (e ∙ append_assoc (written c) (spelled other) left)
compare (b ∷ value) [] rest left e = Shorter b value refl (sym e ∙ append_assoc (written b) (spelled value) rest)
compare (b ∷ value) (c ∷ other) rest left e =
    let first = same_element b c (spelled value ++ rest) (spelled other ++ left) (sym (append_assoc (written b) (spelled value) rest) ∙ e ∙ append_assoc (written c) (spelled other) left) in
    elim (compare value other rest left first.1) [
      | Same same e' ↦ Same (cc (first.0, same)) e'
      | Further d more same e' ↦ Further d more (cc (first.0, same)) e'
      | Shorter d more same e' ↦ Shorter d more (cc (first.0, same)) e'
    ]

-- a longer value goes on where the shorter one ends its string
not_further : (from : ℕ) (value other rest left : List ℕ) (b : ℕ) (more : List ℕ) {ans : Result Token Fault} → other ≡ value ++ b ∷ more → rest ≡ written b ++ (spelled more ++ left) → AreTextBytes other → length other ≤ 65536 → ((length value ≡ 65536) × (ans ≡ fault StringLong from)) ⊎ ((length value ≤ 65535) × (string_end from (1 + length (spelled value)) rest ≡ Some ans)) → ⊥
not_further from value other rest left b more longer here holds few (inl (long, is)) = omega (arith, long, few, ap length longer, length-append value (b ∷ more))
not_further from value other rest left b more {ans} longer here holds few (inr (short, end)) =
    let is_text = (all_back (λ c. is_text_byte c ≡ true) value (b ∷ more) (subst AreTextBytes longer holds)).0 in
    let none = no_end_at_element from (1 + length (spelled value)) b (spelled more ++ left) is_text in
    none-some ans (sym none ∙ ap (string_end from (1 + length (spelled value))) (sym here) ∙ end)

-- the value of a string has no more bytes than are looked at
few_elements : (from : ℕ) (bytes : List ℕ) (ans : Result Token Fault) (s : BeginsString from bytes ans) → length s.value ≤ 65536
few_elements from bytes ans s = elim s.ends [ inl (long, is) ↦ omega (arith, long) | inr (short, end) ↦ omega (arith, short) ]

same_end : (from : ℕ) (value other rest left : List ℕ) (r s : Result Token Fault) → value ≡ other → rest ≡ left
    → ((length value ≡ 65536) × (r ≡ fault StringLong from)) ⊎ ((length value ≤ 65535) × (string_end from (1 + length (spelled value)) rest ≡ Some r))
    → ((length other ≡ 65536) × (s ≡ fault StringLong from)) ⊎ ((length other ≤ 65535) × (string_end from (1 + length (spelled other)) left ≡ Some s)) → r ≡ s
same_end from value other rest left r s same e (inl (long, is)) (inl (long', is')) = is ∙ sym is'
same_end from value other rest left r s same e (inl (long, is)) (inr (short, is')) = absurd (omega (arith, long, short, ap length same))
same_end from value other rest left r s same e (inr (short, is)) (inl (long, is')) = absurd (omega (arith, long, short, ap length same))
same_end from value other rest left r s same e (inr (short, is)) (inr (short', is')) = cc

one_string : (from : ℕ) (bytes : List ℕ) (r s : Result Token Fault) → BeginsString from bytes r → BeginsString from bytes s → r ≡ s
one_string from bytes r s p q =
    let spellings : spelled p.value ++ p.rest ≡ spelled q.value ++ q.rest = cc (p.quoted, q.quoted) in
    elim (compare p.value q.value p.rest q.rest spellings) [
      | Same same e ↦ same_end from p.value q.value p.rest q.rest r s same e p.ends q.ends
      | Further b more longer here ↦ absurd (not_further from p.value q.value p.rest q.rest b more longer here q.holds (few_elements from bytes s q) p.ends)
      | Shorter b more longer here ↦ absurd (not_further from q.value p.value q.rest p.rest b more longer here p.holds (few_elements from bytes r p) q.ends)
    ]

one_beginning : (from : ℕ) (bytes : List ℕ) (r s : Result Token Fault) → Begins from bytes r → Begins from bytes s → r ≡ s
one_beginning from bytes r s (inl p) (inl q) = one_string from bytes r s p q
one_beginning from bytes r s (inl p) (inr q) = absurd (q.0 (spelled p.value ++ p.rest, p.quoted))
one_beginning from bytes r s (inr p) (inl q) = absurd (p.0 (spelled q.value ++ q.rest, q.quoted))
one_beginning from bytes r s (inr p) (inr q) = p.1 ∙ sym q.1

-- a text has one first token from a place on
pub one_token : (text : List ℕ) (at : ℕ) (r s : Result Token Fault) → FirstToken text at r → FirstToken text at s → r ≡ s
one_token text at r s p q =
    let same = one_gap (drop at text) p.gap q.gap p.skipped q.skipped in
    one_beginning (at + p.gap) (drop (at + p.gap) text) r s p.begins (subst (λ n. Begins (at + n) (drop (at + n) text) s) (sym same) q.begins)

-- An answer that is a token, if one, of at most so many bytes at `from`.
abbrev Spans : ℕ → ℕ → Result Token Fault → Type 0
Spans from most r = IfOk r (IsWithin from (from + most))

spans_either : (c : Bool) (from most : ℕ) (r s : Result Token Fault) → (c ≡ true → Spans from most r) → (c ≡ false → Spans from most s) → Spans from most (cond c r s)
spans_either true from most r s f g = f refl
spans_either false from most r s f g = g refl

span : (kind : TokenKind) (from len most : ℕ) → 0 < len → len ≤ most → Spans from most (token kind from len)
span kind from len most one le = record { starts = omega arith; ordered = omega arith; ends = omega arith; advances = λ _. omega arith }

-- a front that takes the first byte has a byte
front_has_one : (p : ℕ → Bool) (b : ℕ) (bs : List ℕ) → p b ≡ true → 0 < prefix_len p (b ∷ bs)
front_has_one p b bs h = rw h (omega arith)

spans_name : (from : ℕ) (b : ℕ) (bs : List ℕ) → is_name_start b ≡ true → Spans from (length (b ∷ bs)) (name_of from (b ∷ bs))
spans_name from b bs h =
    let len = prefix_len is_name_byte (b ∷ bs) in
    spans_either (nat_lt 255 len) from (length (b ∷ bs)) (fault NameLong from) (token Name from len) (λ _. tt)
    (λ _. span Name from len (length (b ∷ bs)) (front_has_one is_name_byte b bs (or_left _ _ h)) (prefix_len-le-length is_name_byte (b ∷ bs)))

spans_numeral : (negative : Bool) (from sign_len most : ℕ) (bs : List ℕ) → 0 < sign_len + prefix_len is_ascii_digit bs → sign_len + length bs ≤ most → Spans from most (numeral_of negative from sign_len bs)
spans_numeral negative from sign_len most bs one le =
    let len = prefix_len is_ascii_digit bs in
    let within : len ≤ length bs = prefix_len-le-length is_ascii_digit bs in
    spans_either (is_in_range negative (digits_value 10 (take len bs))) from most (token Numeral from (sign_len + len)) (fault NumeralPast from)
    (λ _. span Numeral from (sign_len + len) most one (omega arith)) (λ _. tt)

spans_minus : (from most : ℕ) (bs : List ℕ) → 1 + length bs ≤ most → Spans from most (minus_of from bs)
spans_minus from most bs le = spans_either (prefix_len is_ascii_digit bs == 0) from most (fault BadByte from) (numeral_of true from 1 bs) (λ _. tt) (λ _. spans_numeral true from 1 most bs (omega arith) le)

spans_one_byte : (from most : ℕ) (sign : Option TokenKind) → 1 ≤ most → Spans from most (one_byte from sign)
spans_one_byte from most (Some kind) le = span kind from 1 most (omega arith) le
spans_one_byte from most None le = tt

spans_plain : (from : ℕ) (bs : List ℕ) → Spans from (length bs) (plain_token from bs)
spans_plain from [] = record { starts = omega arith; ordered = omega arith; ends = omega arith; advances = λ no. absurd (no refl) }
spans_plain from (b ∷ bs) =
    let most = length (b ∷ bs) in
    let name = name_of from (b ∷ bs) in
    let numeral = numeral_of false from 0 (b ∷ bs) in
    let minus = minus_of from bs in
    let sign = one_byte from (sign_of b) in
    spans_either (is_name_start b) from most name (cond (is_ascii_digit b) numeral (cond (b == 45) minus sign)) (λ h. spans_name from b bs h)
    (λ _. spans_either (is_ascii_digit b) from most numeral (cond (b == 45) minus sign) (λ h. spans_numeral false from 0 most (b ∷ bs) (omega (arith, front_has_one is_ascii_digit b bs h)) (omega arith))
    (λ _. spans_either (b == 45) from most minus sign (λ h. spans_minus from most bs (omega arith)) (λ _. spans_one_byte from most (sign_of b) (omega arith))))

-- the answers that are no token
abbrev IsNoToken : Option (Result Token Fault) → Type 0
IsNoToken o = (t : Token) → o ≡ Some (Ok t) → ⊥

some_ok : {r s : Result Token Fault} → Some r ≡ Some s → r ≡ s
some_ok e = cc

no_token_fault : (f : Fault) → IsNoToken (Some (Err f))
no_token_fault f t e = let same : Err f ≡ Ok t = some_ok e in cc

no_token_none : IsNoToken None
no_token_none t e = none-some (Ok t) e

no_token_if : (c : Bool) (o p : Option (Result Token Fault)) → IsNoToken o → IsNoToken p → IsNoToken (cond c o p)
no_token_if true o p f g = f
no_token_if false o p f g = g

no_token_escape : (from len : ℕ) (bs : List ℕ) → IsNoToken (escape_end from len bs)
no_token_escape from len [] = no_token_fault _
no_token_escape from len (b ∷ bs) = no_token_if (is_escape b) _ _ no_token_none (no_token_if (b == 10) _ _ (no_token_fault _) (no_token_fault _))

-- a string ends in a token at a quote
quote_ends : (c : Bool) (t u : Token) (o : Option (Result Token Fault)) → IsNoToken o → cond c (Some (Ok u)) o ≡ Some (Ok t) → (c ≡ true) × (t ≡ u)
quote_ends true t u o _ e = let same : Ok u ≡ Ok t = some_ok e in (refl, cc)
quote_ends false t u o none e = absurd (none t e)

pub string_token : (from len : ℕ) (rest : List ℕ) (t : Token) → string_end from len rest ≡ Some (Ok t) → (t ≡ record { kind = Text; from = from; to = from + (len + 1) }) × ((more : List ℕ) × (rest ≡ 34 ∷ more))
string_token from len [] t e = absurd (no_token_fault _ t e)
string_token from len (b ∷ bs) t e =
    let others = no_token_if (b == 10) _ _ (no_token_fault _) (no_token_if (b == 92) _ _ (no_token_escape from len bs) (no_token_if (is_plain b) _ _ no_token_none (no_token_fault _))) in
    let ends = quote_ends (b == 34) t (record { kind = Text; from = from; to = from + (len + 1) }) _ others e in
    (ends.1, (bs, ap (λ c. c ∷ bs) (eqb-true b 34 ends.0)))

-- a string that is a token: its value between quotes
pub record IsTextToken (from : ℕ) (bytes : List ℕ) (t : Token) : Type 0 where
  pub value : List ℕ
  pub more : List ℕ
  pub token_is : t ≡ record { kind = Text; from = from; to = from + (length (spelled value) + 2) }
  pub bytes_are : bytes ≡ 34 ∷ (spelled value ++ 34 ∷ more)
  pub holds : AreTextBytes value

pub text_token : (from : ℕ) (bytes : List ℕ) (t : Token) → BeginsString from bytes (Ok t) → IsTextToken from bytes t
text_token from bytes t s = elim s.ends [
  | inl (long, is) ↦ absurd (let no : Ok t ≡ fault StringLong from = is in cc)
  | inr (short, end) ↦
      let (is, (more, rest)) = string_token from (1 + length (spelled s.value)) s.rest t end in
      let len : from + (1 + length (spelled s.value) + 1) ≡ from + (length (spelled s.value) + 2) = omega arith in
      record { value = s.value; more = more; token_is = is ∙ ap (λ n. record { kind = Text; from = from; to = n }) len; bytes_are = s.quoted ∙ ap (λ xs. 34 ∷ (spelled s.value ++ xs)) rest; holds = s.holds }
]

spans_string : (from : ℕ) (bytes : List ℕ) (r : Result Token Fault) → BeginsString from bytes r → Spans from (length bytes) r
spans_string from bytes (Err f) s = tt
spans_string from bytes (Ok t) s =
    let text = text_token from bytes t s in
    let long : length (spelled text.value) + 2 ≤ length bytes = omega (arith, ap length text.bytes_are, length-append (spelled text.value) (34 ∷ text.more)) in
    subst (IsWithin from (from + length bytes)) (sym text.token_is) (span Text from (length (spelled text.value) + 2) (length bytes) (omega arith) long)

-- the first token from a place on ends within the text
pub token_within : (text : List ℕ) (at : ℕ) (r : Result Token Fault) → at ≤ length text → FirstToken text at r → IfOk r (IsWithin at (length text))
token_within text at r le first =
    let from = at + first.gap in
    let gap_le = first.skipped.within in
    let spans : Spans from (length (drop from text)) r = elim first.begins [ inl s ↦ spans_string from (drop from text) r s | inr p ↦ subst (Spans from (length (drop from text))) (sym p.1) (spans_plain from (drop from text)) ] in
    IfOk-weaker r (IsWithin from (from + length (drop from text))) (IsWithin at (length text)) (λ t w. record { starts = omega (arith, w.starts); ordered = w.ordered; ends = omega (arith, w.ends, length-drop from text, length-drop at text); advances = w.advances }) spans
