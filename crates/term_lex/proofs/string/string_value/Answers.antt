use Rattle.std.proofs.Common.{arith}
use Rattle.term_lex.proofs.LiteralTokens.{within_text, string_bytes}
use Rattle.term_lex.proofs.string.string_value.Goals as goal

pub slice_bounds-value_of_bytes-end : goal.slice_bounds-value_of_bytes-end
slice_bounds-value_of_bytes-end c = let w = within_text c.args.text.now c.args.token.now c.requires.0 in omega (arith, w.0, w.1)

pub value_of_bytes-requires : goal.value_of_bytes-requires
value_of_bytes-requires c = string_bytes c.args.text.now c.args.token.now c.requires
