use Rattle.std.proofs.Common.{◌≡◌, ◌+◌, ◌*◌, ◌-◌, take, get_or, true, arith, sym, subst, ◌∙◌}
use Rattle.std.specs.Char.{is_ascii_digit}
use Rattle.std.specs.Str.Parse.{digits_value}
use Rattle.std.proofs.lemmas.Int.Digits.{digits_value_more}
use Rattle.std.proofs.lemmas.List.Sums.{prefix_len-drop_yes}
use Rattle.term_lex.specs.Sizes.{IsSize}
use Rattle.term_lex.proofs.Digits.{digit_value_is}
use Rattle.term_lex.proofs.numeral.read_digits.Goals as goal

pub loop-byte-preserved : goal.loop-byte-preserved
loop-byte-preserved c =
    let bytes = c.args.bytes.now in
    let i = c.loop-byte.byte-index in
    let here = get_or bytes i 0 in
    let before = c.loop-byte.invariant in
    let is : is_ascii_digit here ≡ true = sym c.is_ascii_digit.ensures.value ∙ c.if-not-is_ascii_digit.false in
    let value : digits_value 10 (take (i + 1) bytes) ≡ digits_value 10 (take i bytes) * 10 + (here - 48) = omega (arith, digits_value_more 10 bytes i c.loop-byte-test.true, digit_value_is here is) in
    record {
      passed = omega (arith, before.passed);
      front = omega (arith, before.front, prefix_len-drop_yes is_ascii_digit bytes i 0 c.loop-byte-test.true is);
      size = subst (λ n. IsSize n c.with_digit-digits.result) (sym value) (c.with_digit-digits.ensures (digits_value 10 (take i bytes)) before.size);
    }
