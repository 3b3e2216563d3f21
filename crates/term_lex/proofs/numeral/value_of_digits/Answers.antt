use Rattle.std.proofs.Common.{rules, ◌≡◌, take, List, ℕ, arith, subst, ap, ◌∙◌}
use Rattle.std.specs.Prelude.{Option}
use Rattle.std.specs.List.{prefix_len}
use Rattle.std.specs.Char.{is_ascii_digit}
use Rattle.std.specs.Str.Parse.{AllDigits, digits_value}
use Rattle.term_lex.specs.Sizes.{IsSize}
use Rattle.term_lex.specs.Tokens.{is_in_range}
use Rattle.term_lex.specs.Values.{signed}
use Rattle.term_lex.proofs.Digits.{digits_are_front, in_range_size}
use Rattle.term_lex.proofs.numeral.value_of_digits.Goals as goal

-- the size that was read is that of all the digits
size_of_all : (digits : List ℕ) (len : ℕ) (size : Option ℕ) → AllDigits 10 digits → len ≡ prefix_len is_ascii_digit digits → IsSize (digits_value 10 (take len digits)) size → IsSize (digits_value 10 digits) size
size_of_all digits len size all is read = subst (λ ds. IsSize (digits_value 10 ds) size) (ap (λ n. take n digits) is ∙ digits_are_front digits all) read

pub signed-requires : goal.signed-requires
signed-requires c =
    let digits = c.args.digits.now in
    let read = subst (IsSize (digits_value 10 digits)) c.in-Some.is (size_of_all digits c.read_digits.result.len c.read_digits.result.size c.requires.digits c.read_digits.ensures.len c.read_digits.ensures.size) in
    ap (is_in_range c.args.negative) read.0 ∙ c.requires.in_range

pub unreachable-requires : goal.unreachable-requires
unreachable-requires c =
    let digits = c.args.digits.now in
    let read = subst (IsSize (digits_value 10 digits)) c.in-None.is (size_of_all digits c.read_digits.result.len c.read_digits.result.size c.requires.digits c.read_digits.ensures.len c.read_digits.ensures.size) in
    omega (arith, read, in_range_size c.args.negative (digits_value 10 digits) c.requires.in_range)

pub returns : goal.returns
returns c =
    let digits = c.args.digits.now in
    let read = subst (IsSize (digits_value 10 digits)) c.in-Some.is (size_of_all digits c.read_digits.result.len c.read_digits.result.size c.requires.digits c.read_digits.ensures.len c.read_digits.ensures.size) in
    let value = c.signed.ensures ∙ ap (signed c.args.negative) read.0 in
    search (rules, value)
