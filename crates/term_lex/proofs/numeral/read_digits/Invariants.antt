use Rattle.std.proofs.Common.{◌≡◌, ◌+◌, take, drop}
use Rattle.std.specs.List.{prefix_len}
use Rattle.std.specs.Char.{is_ascii_digit}
use Rattle.std.specs.Str.Parse.{digits_value}
use Rattle.term_lex.specs.Sizes.{IsSize}
use Rattle.term_lex.proofs.numeral.read_digits.Given as goal

-- all that has been passed is digits, and the size is that of these
abbrev pub invariant-loop-byte : goal.invariant-loop-byte
invariant-loop-byte l = record {
  passed : l.digits.len ≡ l.byte-index;
  front : prefix_len is_ascii_digit l.bytes ≡ l.digits.len + prefix_len is_ascii_digit (drop l.byte-index l.bytes);
  size : IsSize (digits_value 10 (take l.byte-index l.bytes)) l.digits.size;
}
