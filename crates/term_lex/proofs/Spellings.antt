-- Which token a spelling is, where it stands in a text.
use Rattle.std.proofs.Common.{◌≡◌, ◌≢◌, ℕ, suc, ◌+◌, ◌-◌, ◌^◌, ◌<◌, ◌≤◌, Bool, true, false, cond, List, [], ◌∷◌, ◌++◌, length, take, drop, get_or, ℤ, pos, negsuc, neg_ℤ, Some, Ok, ◌⊎◌, inl, inr, refl, sym, ap, subst, ◌∙◌, append_assoc, length-append, arith}
use Rattle.std.proofs.Math.Seq.{drop-append_seam, take-append_seam}
use Rattle.std.proofs.lemmas.Bool.{or_cases, or_right, and_parts, leb-true, eqb-true, ne_eqb, eq-eqb, or_from, lt-ltb, le-ltb, cond-true, cond-false}
use Rattle.std.proofs.lemmas.Int.{ints}
use Rattle.std.proofs.lemmas.List.{drop-drop}
use Rattle.std.proofs.lemmas.List.Folds.{prefix_len-append, length-prefix_len}
use Rattle.std.specs.Prelude.{◌==◌, nat_lt, slice_range, ◌<ℤ◌, ◌≤ℤ◌}
use Rattle.std.specs.Char.{is_ascii_digit, is_ascii_alphabetic}
use Rattle.std.specs.Fmt.{decimal, signed_decimal}
use Rattle.std.specs.Int.{is_in_range as is_between}
use Rattle.std.specs.List.{prefix_len}
use Rattle.std.specs.Str.Parse.{AllDigits, digits_value}
use Rattle.eq_base.proofs.Decimals.{decimal-WritesSize}
use Rattle.term_lex.specs.declared.token.TokenKind.{TokenKind}
use Rattle.term_lex.specs.declared.token.TokenKind.TheVariants.{Name, Numeral, Text, OpenRound, CloseRound, Comma, Dot, OpenSquare, CloseSquare, Semicolon}
use Rattle.term_lex.specs.declared.fault.FaultKind.TheVariants.{NameLong, NumeralPast}
use Rattle.term_lex.specs.Bytes.{is_blank, is_name_start, is_name_byte}
use Rattle.term_lex.specs.Gaps.{IsGap}
use Rattle.term_lex.specs.Lexemes.{Lexeme, FirstLexeme}
use Rattle.term_lex.specs.Strings.{spelled, AreTextBytes}
use Rattle.term_lex.specs.Tokens.{IsName, token, fault, is_in_range, numeral_of, plain_token, IsQuoted, Begins}
use Rattle.term_lex.specs.Values.{numeral_value, signed}
use Rattle.term_lex.proofs.Digits.{digit_bounds, digit_is, digits_are_front}
use Rattle.term_lex.proofs.Gaps.{gap_before, none_passed, blank_passed}

-- no byte, or the blank behind a comma
abbrev pub IsLead : List ℕ → Type 0
IsLead lead = (lead ≡ []) ⊎ (lead ≡ 32 ∷ [])

-- the first byte is neither blank nor the sign of a comment
abbrev BeginsNoGap : List ℕ → Type 0
BeginsNoGap [] = ⊥
BeginsNoGap (b ∷ bs) = (is_blank b ≡ false) × (b ≢ 37)

-- no name and no numeral goes on with the bytes
abbrev pub EndsWord : List ℕ → Type 0
EndsWord follow = prefix_len is_name_byte follow ≡ 0

-- the word, where these bytes follow, is a token of the kind
pub record Spells (kind : TokenKind) (word follow : List ℕ) : Type 0 where
  pub no_gap : BeginsNoGap (word ++ follow)
  pub begins : (from : ℕ) → Begins from (word ++ follow) (token kind from (length word))

-- the lexeme that is the word at a place
abbrev pub word_at : ℕ → TokenKind → List ℕ → Lexeme
word_at from kind word = record { token = record { kind = kind; from = from; to = from + length word }; bytes = word }

-- ---- a word in a text

-- where a text goes on behind a part of it
pub drop_part : (text : List ℕ) (at : ℕ) (part rest : List ℕ) → drop at text ≡ part ++ rest → drop (at + length part) text ≡ rest
drop_part text at part rest stands = sym (drop-drop (length part) at text) ∙ ap (drop (length part)) stands ∙ drop-append_seam part rest

part_is : (text : List ℕ) (at : ℕ) (part rest : List ℕ) → drop at text ≡ part ++ rest → slice_range text at (at + length part) ≡ part
part_is text at part rest stands =
    let len : at + length part - at ≡ length part = omega arith in
    ap (λ n. take n (drop at text)) len ∙ ap (take (length part)) stands ∙ take-append_seam part rest

lead_is_gap : (lead bytes : List ℕ) → IsLead lead → BeginsNoGap bytes → IsGap (lead ++ bytes) (length lead)
lead_is_gap lead [] is no_gap = absurd no_gap
lead_is_gap lead (b ∷ bs) (inl none) no_gap = subst (λ xs. IsGap (xs ++ b ∷ bs) (length xs)) (sym none) (gap_before (b ∷ bs) 0 b refl no_gap.0 no_gap.1 (none_passed (b ∷ bs)))
lead_is_gap lead (b ∷ bs) (inr blank) no_gap =
    let bytes = 32 ∷ b ∷ bs in
    let passed = blank_passed bytes 0 32 refl (λ e. absurd (omega (arith, e))) refl (none_passed bytes) in
    subst (λ xs. IsGap (xs ++ b ∷ bs) (length xs)) (sym blank) (gap_before bytes 1 b refl no_gap.0 no_gap.1 passed)

-- the first lexeme of a text that goes on with a word, behind a lead
pub word_behind : (text : List ℕ) (at : ℕ) (lead word follow : List ℕ) (kind : TokenKind) → IsLead lead → drop at text ≡ lead ++ (word ++ follow) → Spells kind word follow → FirstLexeme text at (Ok (word_at (at + length lead) kind word))
word_behind text at lead word follow kind is_lead stands spells =
    let from = at + length lead in
    let here : drop from text ≡ word ++ follow = drop_part text at lead (word ++ follow) stands in (
      record {
        gap = length lead;
        skipped = subst (λ xs. IsGap xs (length lead)) (sym stands) (lead_is_gap lead (word ++ follow) is_lead spells.no_gap);
        begins = subst (λ xs. Begins from xs (token kind from (length word))) (sym here) (spells.begins from);
      },
      ap (λ bytes. record { token = record { kind = kind; from = from; to = from + length word }; bytes = bytes }) (sym (part_is text from word follow here)),
    )

pub word_here : (text : List ℕ) (at : ℕ) (word follow : List ℕ) (kind : TokenKind) → drop at text ≡ word ++ follow → Spells kind word follow → FirstLexeme text at (Ok (word_at at kind word))
word_here text at word follow kind stands spells =
    let same : at + 0 ≡ at = omega arith in
    subst (λ n. FirstLexeme text at (Ok (word_at n kind word))) same (word_behind text at [] word follow kind (inl refl) stands spells)

-- ---- names

no_quote : (b : ℕ) (bs : List ℕ) → b ≢ 34 → IsQuoted (b ∷ bs) → ⊥
no_quote b bs other (rest, e) = other (ap (λ xs. get_or xs 0 0) e)

-- a letter, `_` or a digit begins no gap
above_gap : (b : ℕ) (bs : List ℕ) → 48 ≤ b → BeginsNoGap (b ∷ bs)
above_gap b bs above = (
  or_from _ _ (or_from _ _ (or_from _ _ (ne_eqb b 9 (λ e. omega arith)) (ne_eqb b 10 (λ e. omega arith))) (ne_eqb b 13 (λ e. omega arith))) (ne_eqb b 32 (λ e. omega arith)),
  λ e. omega arith,
)

start_above : (b : ℕ) → is_name_start b ≡ true → 65 ≤ b
start_above b h = elim (or_cases (is_ascii_alphabetic b) (b == 95) h) [
  | inl alphabetic ↦ elim (or_cases (is_between 65 90 b) (is_between 97 122 b) alphabetic) [
    | inl upper ↦ leb-true 65 b (and_parts _ _ upper).0
    | inr lower ↦ let above : 97 ≤ b = leb-true 97 b (and_parts _ _ lower).0 in omega arith
  ]
  | inr underscore ↦ let same : b ≡ 95 = eqb-true b 95 underscore in omega arith
]

-- a front that passes whole ends where no byte goes on with it
front_len : (passes : ℕ → Bool) (front follow : List ℕ) → prefix_len passes front ≡ length front → prefix_len passes follow ≡ 0 → prefix_len passes (front ++ follow) ≡ length front
front_len passes front follow whole ends = prefix_len-append passes front follow ∙ cond-true _ _ _ (eq-eqb _ _ whole) ∙ omega (arith, ends)

pub name_spells : (name follow : List ℕ) → IsName name → EndsWord follow → Spells Name name follow
name_spells [] follow is ends = let no : false ≡ true = is.starts in cc
name_spells (b ∷ bs) follow is ends =
    let name = b ∷ bs in
    let above = start_above b is.starts in
    let len = front_len is_name_byte name follow is.goes_on ends in
    record {
      no_gap = above_gap b (bs ++ follow) (omega (arith, above));
      begins = λ from. inr (
        no_quote b (bs ++ follow) (λ e. omega (arith, above, e)),
        sym (
            cond-true _ _ _ is.starts
            ∙ ap (λ n. cond (nat_lt 255 n) (fault NameLong from) (token Name from n)) len
            ∙ cond-false _ _ _ (le-ltb 255 (length name) is.fits)
            ),
      );
    }

-- ---- numerals

no_digit : (follow : List ℕ) → EndsWord follow → prefix_len is_ascii_digit follow ≡ 0
no_digit [] ends = refl
no_digit (b ∷ bs) ends = by (is_ascii_digit b) refl
  where
    by : (digit : Bool) → is_ascii_digit b ≡ digit → cond digit (1 + prefix_len is_ascii_digit bs) 0 ≡ 0
    by true is =
        let goes_on = cond-true _ (1 + prefix_len is_name_byte bs) 0 (or_right (is_name_start b) (is_ascii_digit b) is) in
        absurd (omega (arith, goes_on, ends))
    by false is = refl

all_digits-len : (digits : List ℕ) → AllDigits 10 digits → prefix_len is_ascii_digit digits ≡ length digits
all_digits-len digits all = sym (length-prefix_len is_ascii_digit digits) ∙ ap length (digits_are_front digits all)

-- the numeral that digits spell
numeral_of-digits : (negative : Bool) (from sign_len : ℕ) (digits follow : List ℕ) → AllDigits 10 digits → is_in_range negative (digits_value 10 digits) ≡ true → EndsWord follow → numeral_of negative from sign_len (digits ++ follow) ≡ token Numeral from (sign_len + length digits)
numeral_of-digits negative from sign_len digits follow all fits ends =
    ap (λ n. cond (is_in_range negative (digits_value 10 (take n (digits ++ follow)))) (token Numeral from (sign_len + n)) (fault NumeralPast from))
    (front_len is_ascii_digit digits follow (all_digits-len digits all) (no_digit follow ends))
    ∙ cond-true _ _ _ (ap (λ ds. is_in_range negative (digits_value 10 ds)) (take-append_seam digits follow) ∙ fits)

no_start : (b : ℕ) → is_ascii_digit b ≡ true → is_name_start b ≡ false
no_start b is = search (digit_bounds b is, arith)

digits_spell : (digits follow : List ℕ) → AllDigits 10 digits → 0 < length digits → is_in_range false (digits_value 10 digits) ≡ true → EndsWord follow → Spells Numeral digits follow
digits_spell [] follow all some fits ends = absurd (omega arith)
digits_spell (b ∷ bs) follow all some fits ends =
    let digit = digit_is b all.0 in
    let bounds = digit_bounds b digit in
    let same : 0 + length (b ∷ bs) ≡ length (b ∷ bs) = omega arith in
    record {
      no_gap = above_gap b (bs ++ follow) bounds.0;
      begins = λ from. inr (
        no_quote b (bs ++ follow) (λ e. omega (arith, bounds, e)),
        sym (
            cond-false _ _ _ (no_start b digit)
            ∙ cond-true _ _ _ digit
            ∙ numeral_of-digits false from 0 (b ∷ bs) follow all fits ends
            ∙ ap (token Numeral from) same
            ),
      );
    }

minus_spells : (digits follow : List ℕ) → AllDigits 10 digits → 0 < length digits → is_in_range true (digits_value 10 digits) ≡ true → EndsWord follow → Spells Numeral (45 ∷ digits) follow
minus_spells digits follow all some fits ends =
    let len = front_len is_ascii_digit digits follow (all_digits-len digits all) (no_digit follow ends) in
    let same : 1 + length digits ≡ length (45 ∷ digits) = omega arith in
    record {
      no_gap = (refl, λ e. omega (arith, e));
      begins = λ from. inr (
        no_quote 45 (digits ++ follow) (λ e. omega (arith, e)),
        sym (
            cond-false _ _ _ (ne_eqb (prefix_len is_ascii_digit (digits ++ follow)) 0 (λ e. omega (arith, len, e, some)))
            ∙ numeral_of-digits true from 1 digits follow all fits ends
            ∙ ap (token Numeral from) same
            ),
      );
    }

-- the sizes of the numbers of 128 bits
positive_size : (n : ℕ) → pos n <ℤ pos (2 ^ 127) → n < 2 ^ 127
positive_size n below = omega (arith, ints)

negative_size : (n : ℕ) → neg_ℤ (pos (2 ^ 127)) ≤ℤ negsuc n → suc n ≤ 2 ^ 127
negative_size n least = omega (arith, ints)

-- the text of a number of 128 bits is a numeral
pub decimal_spells : (value : ℤ) (follow : List ℕ) → neg_ℤ (pos (2 ^ 127)) ≤ℤ value → value <ℤ pos (2 ^ 127) → EndsWord follow → Spells Numeral (signed_decimal value) follow
decimal_spells (pos n) follow low high ends =
    let below = positive_size n high in
    let writes = decimal-WritesSize n (omega (arith, below)) in
    digits_spell (decimal n) follow writes.all_digits writes.some (ap (is_in_range false) writes.value ∙ lt-ltb n (2 ^ 127) below) ends
decimal_spells (negsuc n) follow low high ends =
    let most = negative_size n low in
    let writes = decimal-WritesSize (suc n) most in
    minus_spells (decimal (suc n)) follow writes.all_digits writes.some (ap (is_in_range true) writes.value ∙ lt-ltb (suc n) (2 ^ 127 + 1) (omega (arith, most))) ends

digits-value : (digits : List ℕ) → AllDigits 10 digits → 0 < length digits → numeral_value digits ≡ pos (digits_value 10 digits)
digits-value [] all some = absurd (omega arith)
digits-value (b ∷ bs) all some = cond-false _ _ _ (ne_eqb b 45 (λ e. omega (arith, digit_bounds b (digit_is b all.0), e)))

-- and has its value
pub decimal-value : (value : ℤ) → neg_ℤ (pos (2 ^ 127)) ≤ℤ value → value <ℤ pos (2 ^ 127) → numeral_value (signed_decimal value) ≡ value
decimal-value (pos n) low high = let writes = decimal-WritesSize n (omega (arith, positive_size n high)) in digits-value (decimal n) writes.all_digits writes.some ∙ ap pos writes.value
decimal-value (negsuc n) low high = ap (signed true) (decimal-WritesSize (suc n) (negative_size n low)).value

-- ---- strings and signs

pub string_spells : (value follow : List ℕ) → AreTextBytes value → length value ≤ 65535 → Spells Text (34 ∷ (spelled value ++ 34 ∷ [])) follow
string_spells value follow holds short = let len : 1 + length (spelled value) + 1 ≡ length (34 ∷ (spelled value ++ 34 ∷ [])) = omega (arith, length-append (spelled value) (34 ∷ [])) in record {
  no_gap = (refl, λ e. omega (arith, e));
  begins = λ from. inl (record {
    value = value;
    rest = 34 ∷ follow;
    quoted = ap (λ xs. 34 ∷ xs) (append_assoc (spelled value) (34 ∷ []) follow);
    holds = holds;
    ends = inr (short, ap (λ n. Some (token Text from n)) len);
  });
}

sign_spells : (sign : ℕ) (kind : TokenKind) (follow : List ℕ) → BeginsNoGap (sign ∷ follow) → sign ≢ 34 → ((from : ℕ) → token kind from 1 ≡ plain_token from (sign ∷ follow)) → Spells kind (sign ∷ []) follow
sign_spells sign kind follow no_gap other plain = record { no_gap = no_gap; begins = λ from. inr (no_quote sign follow other, plain from) }

pub open_spells : (follow : List ℕ) → Spells OpenRound (40 ∷ []) follow
open_spells follow = sign_spells 40 OpenRound follow (refl, λ e. omega (arith, e)) (λ e. omega (arith, e)) (λ from. refl)

pub close_spells : (follow : List ℕ) → Spells CloseRound (41 ∷ []) follow
close_spells follow = sign_spells 41 CloseRound follow (refl, λ e. omega (arith, e)) (λ e. omega (arith, e)) (λ from. refl)

pub open_square_spells : (follow : List ℕ) → Spells OpenSquare (91 ∷ []) follow
open_square_spells follow = sign_spells 91 OpenSquare follow (refl, λ e. omega (arith, e)) (λ e. omega (arith, e)) (λ from. refl)

pub close_square_spells : (follow : List ℕ) → Spells CloseSquare (93 ∷ []) follow
close_square_spells follow = sign_spells 93 CloseSquare follow (refl, λ e. omega (arith, e)) (λ e. omega (arith, e)) (λ from. refl)

pub semicolon_spells : (follow : List ℕ) → Spells Semicolon (59 ∷ []) follow
semicolon_spells follow = sign_spells 59 Semicolon follow (refl, λ e. omega (arith, e)) (λ e. omega (arith, e)) (λ from. refl)

pub comma_spells : (follow : List ℕ) → Spells Comma (44 ∷ []) follow
comma_spells follow = sign_spells 44 Comma follow (refl, λ e. omega (arith, e)) (λ e. omega (arith, e)) (λ from. refl)

pub dot_spells : (follow : List ℕ) → Spells Dot (46 ∷ []) follow
dot_spells follow = sign_spells 46 Dot follow (refl, λ e. omega (arith, e)) (λ e. omega (arith, e)) (λ from. refl)
