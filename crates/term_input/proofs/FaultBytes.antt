-- The fault of a term stands within the bytes that are read, or at their end.
use Rattle.std.proofs.Common.{◌≡◌, ℕ, ◌+◌, ◌≤◌, Bool, true, false, cond, List, [], ◌∷◌, length, take, drop, arith, Option, Some, None, Result, Ok, Err, inl, inr, sym, ap, subst, length-drop, length-append}
use Rattle.std.specs.Prelude.{nat_lt, ◌==◌}
use Rattle.std.specs.List.{AllByRecursion, prefix_len}
use Rattle.std.specs.Char.{is_ascii_digit}
use Rattle.std.specs.Str.Parse.{digits_value}
use Rattle.eq_base.specs.Tree.{cells}
use Rattle.eq_base.proofs.Lists.{all_front, all_back}
use Rattle.term_lex.specs.declared.token.Token.{Token}
use Rattle.term_lex.specs.declared.token.TokenKind.{TokenKind}
use Rattle.term_lex.specs.declared.token.TokenKind.TheVariants.{Name, Numeral, Text, End}
use Rattle.term_lex.specs.declared.fault.Fault.{Fault}
use Rattle.term_lex.specs.declared.fault.FaultKind.{FaultKind}
use Rattle.term_lex.specs.declared.fault.FaultKind.TheVariants.{BadByte, OpenString, BadEscape, NumeralPast, NameLong, StringLong}
use Rattle.term_lex.specs.declared.syntax.Syntax.{Syntax}
use Rattle.term_lex.specs.declared.syntax.Syntax.TheVariants.{Standmath, LispM}
use Rattle.term_lex.specs.Bytes.{is_name_start, is_name_byte, is_plain, is_escape, sign_of}
use Rattle.term_lex.specs.Strings.{spelled}
use Rattle.term_lex.specs.Tokens.{token, fault, name_of, is_in_range, numeral_of, minus_of, one_byte, plain_token, escape_end, string_end, BeginsString, FirstToken}
use Rattle.term_lex.specs.Lexemes.{Lexeme, Scans, IsFirstFault}
use Rattle.term_lex.proofs.Tokens.{token_within}
use Rattle.term_lex.proofs.Readings.{scans_within}
use Rattle.symbol_table.specs.Table.{Table}
use Rattle.written_terms.specs.Notation.{IsDotted}
use Rattle.written_terms.specs.Refusing.{MeansNoTerm}
use Rattle.def_file.specs.Notations.{notation_of}
use Rattle.term_input.specs.TermReading.{ReadsOne}
use Rattle.term_input.proofs.StandmathOutlines as standmath
use Rattle.term_input.proofs.ListOutlines as lisp_m

-- ---- a token's fault

-- the fault, if this is one, stands at most so far
abbrev Near : ℕ → Result Token Fault → Type 0
Near most r = (f : Fault) → r ≡ Err f → f.byte ≤ most

near_fault : (kind : FaultKind) (byte most : ℕ) → byte ≤ most → Near most (fault kind byte)
near_fault kind byte most le f e = let is : record { kind = kind; byte = byte } ≡ f = cc (e) in subst (λ (g : Fault). g.byte ≤ most) is le

near_token : (kind : TokenKind) (from len most : ℕ) → Near most (token kind from len)
near_token kind from len most f e = cc (e)

near_if : (c : Bool) (most : ℕ) (r s : Result Token Fault) → Near most r → Near most s → Near most (cond c r s)
near_if true most r s p q = p
near_if false most r s p q = q

near_name : (from : ℕ) (bs : List ℕ) → Near from (name_of from bs)
near_name from bs =
    let len = prefix_len is_name_byte bs in
    near_if (nat_lt 255 len) from (fault NameLong from) (token Name from len) (near_fault NameLong from from (omega arith)) (near_token Name from len from)

near_numeral : (negative : Bool) (from sign_len : ℕ) (bs : List ℕ) → Near from (numeral_of negative from sign_len bs)
near_numeral negative from sign_len bs =
    let len = prefix_len is_ascii_digit bs in
    near_if (is_in_range negative (digits_value 10 (take len bs))) from (token Numeral from (sign_len + len)) (fault NumeralPast from) (near_token Numeral from (sign_len + len) from) (near_fault NumeralPast from from (omega arith))

near_one : (from : ℕ) (sign : Option TokenKind) → Near from (one_byte from sign)
near_one from (Some kind) = near_token kind from 1 from
near_one from None = near_fault BadByte from from (omega arith)

-- the fault of any token but a string stands at its first byte
near_plain : (from : ℕ) (bs : List ℕ) → Near from (plain_token from bs)
near_plain from [] = near_token End from 0 from
near_plain from (b ∷ bs) =
    let numeral = numeral_of false from 0 (b ∷ bs) in
    let minus = minus_of from bs in
    let sign = one_byte from (sign_of b) in
    near_if (is_name_start b) from (name_of from (b ∷ bs)) (cond (is_ascii_digit b) numeral (cond (b == 45) minus sign)) (near_name from (b ∷ bs))
    (near_if (is_ascii_digit b) from numeral (cond (b == 45) minus sign) (near_numeral false from 0 (b ∷ bs))
    (near_if (b == 45) from minus sign
    (near_if (prefix_len is_ascii_digit bs == 0) from (fault BadByte from) (numeral_of true from 1 bs) (near_fault BadByte from from (omega arith)) (near_numeral true from 1 bs))
    (near_one from (sign_of b))))

-- the same of what a string comes to, if it does here
abbrev Ends : ℕ → Option (Result Token Fault) → Type 0
Ends most o = (f : Fault) → o ≡ Some (Err f) → f.byte ≤ most

ends_fault : (kind : FaultKind) (byte most : ℕ) → byte ≤ most → Ends most (Some (fault kind byte))
ends_fault kind byte most le f e = let is : record { kind = kind; byte = byte } ≡ f = cc (e) in subst (λ (g : Fault). g.byte ≤ most) is le

ends_none : (most : ℕ) → Ends most None
ends_none most f e = cc (e)

ends_token : (t : Token) (most : ℕ) → Ends most (Some (Ok t))
ends_token t most f e = cc (e)

ends_if : (c : Bool) (most : ℕ) (o p : Option (Result Token Fault)) → Ends most o → Ends most p → Ends most (cond c o p)
ends_if true most o p q r = q
ends_if false most o p q r = r

ends_escape : (from len most : ℕ) (bs : List ℕ) → from + len ≤ most → Ends most (escape_end from len bs)
ends_escape from len most [] le = ends_fault OpenString from most (omega (arith, le))
ends_escape from len most (b ∷ bs) le =
    let bad = Some (fault BadEscape (from + len)) in
    let open_string = Some (fault OpenString from) in
    ends_if (is_escape b) most None (cond (b == 10) open_string bad) (ends_none most)
    (ends_if (b == 10) most open_string bad (ends_fault OpenString from most (omega (arith, le))) (ends_fault BadEscape (from + len) most le))

ends_string : (from len most : ℕ) (bs : List ℕ) → from + len ≤ most → Ends most (string_end from len bs)
ends_string from len most [] le = ends_fault OpenString from most (omega (arith, le))
ends_string from len most (b ∷ bs) le =
    let bad = Some (fault BadByte (from + len)) in
    let open_string = Some (fault OpenString from) in
    let plain = cond (is_plain b) None bad in
    let escape = cond (b == 92) (escape_end from len bs) plain in
    ends_if (b == 34) most (Some (token Text from (len + 1))) (cond (b == 10) open_string escape) (ends_token (record { kind = Text; from = from; to = from + (len + 1) }) most)
    (ends_if (b == 10) most open_string escape (ends_fault OpenString from most (omega (arith, le)))
    (ends_if (b == 92) most (escape_end from len bs) plain (ends_escape from len most bs le)
    (ends_if (is_plain b) most None bad (ends_none most) (ends_fault BadByte (from + len) most le))))

string_near : (from : ℕ) (bytes : List ℕ) (f : Fault) → BeginsString from bytes (Err f) → f.byte ≤ from + length bytes
string_near from bytes f s = elim s.ends [
  | inl (long, is) ↦ near_fault StringLong from (from + length bytes) (omega arith) f (sym is)
  | inr (short, end) ↦
      let len : from + (1 + length (spelled s.value)) ≤ from + length bytes = omega (arith, ap length s.quoted, length-append (spelled s.value) s.rest) in
      ends_string from (1 + length (spelled s.value)) (from + length bytes) s.rest len f end
]

-- the fault of the first token from a place on
pub token_fault_within : (text : List ℕ) (at : ℕ) (f : Fault) → at ≤ length text → FirstToken text at (Err f) → f.byte ≤ length text
token_fault_within text at f le first =
    let from = at + first.gap in
    let gap_le = first.skipped.within in
    let behind = length-drop at text in
    let rest = length-drop from text in
    elim first.begins [
      | inl s ↦ let near = string_near from (drop from text) f s in omega (arith, near, gap_le, behind, rest, le)
      | inr p ↦ let near = near_plain from (drop from text) f (sym p.1) in omega (arith, near, gap_le, behind, le)
    ]

-- ---- a term's fault

-- the lexeme begins within the text, or at its end
abbrev IsBegun : List ℕ → Lexeme → Type 0
IsBegun text x = x.token.from ≤ length text

all_begun : (text : List ℕ) (at : ℕ) (xs : List Lexeme) (end : ℕ) → at ≤ length text → Scans text at xs end → AllByRecursion (IsBegun text) xs
all_begun text at [] end le s = tt
all_begun text at (x ∷ xs) end le (first, rest) =
    let within = token_within text at (Ok x.token) le first.0 in
    (omega (arith, within.ordered, within.ends), all_begun text x.token.to xs end within.ends rest)

-- a misplaced lexeme is a fault at its first byte
misplaced_there : (syntax : Syntax) (IsSentence : List Lexeme → Type 0) (before : List Lexeme) (x : Lexeme) (f : Fault) → (notation_of syntax).Misplaced IsSentence before x f → f.byte ≡ x.token.from
misplaced_there Standmath IsSentence before x f is = ap (λ (g : Fault). g.byte) is
misplaced_there LispM IsSentence before x f (inl (place, is)) = ap (λ (g : Fault). g.byte) is
misplaced_there LispM IsSentence before x f (inr (other, is)) = ap (λ (g : Fault). g.byte) is

first_within : (syntax : Syntax) (IsSentence : List Lexeme → Type 0) (text : List ℕ) (at : ℕ) (f : Fault) → at ≤ length text → IsFirstFault ((notation_of syntax).Misplaced IsSentence) IsSentence text at f → f.byte ≤ length text
first_within syntax IsSentence text at f le first =
    let end_le = (scans_within text at first.lexemes first.end le first.scanned).1 in
    elim first.here [
      | inl bad ↦ token_fault_within text first.end f end_le bad
      | inr (next, is, stuck, misplaced) ↦
          let within = token_within text first.end (Ok next.token) end_le is.0 in
          let there = misplaced_there syntax IsSentence first.lexemes next f misplaced in
          omega (arith, within.ordered, within.ends, there)
    ]

-- the lexemes of a term's outline are lexemes of the term
outline_begun : (syntax : Syntax) (text : List ℕ) (written : (notation_of syntax).Written) (lexemes : List Lexeme) → (notation_of syntax).IsTerm written lexemes → AllByRecursion (IsBegun text) lexemes
    → AllByRecursion (standmath.Has (IsBegun text)) (cells ((notation_of syntax).outline written))
outline_begun Standmath text written lexemes is all = standmath.outline_has (IsBegun text) written lexemes is all
outline_begun LispM text written lexemes is all = lisp_m.outline_has (IsBegun text) written lexemes is all

means_within : (syntax : Syntax) (names : Table) (text : List ℕ) (at : ℕ) (f : Fault) → at ≤ length text → MeansNoTerm (notation_of syntax) names text at f → f.byte ≤ length text
means_within syntax names text at f le m = by_parts m.spelled
  where
    by_parts : IsDotted (notation_of syntax) m.written m.lexemes → f.byte ≤ length text
    by_parts (front, back, parts, term, dot) =
        let all = subst (AllByRecursion (IsBegun text)) parts (all_begun text at m.lexemes m.end le m.scanned) in
        let begun = outline_begun syntax text m.written front term (all_front (IsBegun text) front back all) in
        let r = m.refused in
        let here = (all_back (standmath.Has (IsBegun text)) r.before (r.here ∷ r.behind) (subst (AllByRecursion (standmath.Has (IsBegun text))) r.split begun)).0 in
        omega (arith, here, r.place)

-- the fault of the term at the beginning of the bytes
pub fault_within : (syntax : Syntax) (names : Table) (window : List ℕ) (f : Fault) → ReadsOne syntax names window (Err f) → f.byte ≤ length window
fault_within syntax names window f (inl first) = first_within syntax _ window 0 f (omega arith) first
fault_within syntax names window f (inr means) = means_within syntax names window 0 f (omega arith) means
