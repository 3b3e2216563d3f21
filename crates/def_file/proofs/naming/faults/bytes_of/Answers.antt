use Rattle.std.proofs.Common.{arith}
use Rattle.term_lex.proofs.LiteralTokens.{within_text}
use Rattle.def_file.proofs.naming.faults.bytes_of.Goals as goal

pub slice_bounds-result-count : goal.slice_bounds-result-count
slice_bounds-result-count c = let w = within_text c.args.text.now c.args.token c.requires in omega (arith, w.0, w.1)

pub slice_bounds-result-start : goal.slice_bounds-result-start
slice_bounds-result-start c = let w = within_text c.args.text.now c.args.token c.requires in omega (arith, w.0, w.1)

pub slice_bounds-result-end : goal.slice_bounds-result-end
slice_bounds-result-end c = let w = within_text c.args.text.now c.args.token c.requires in omega (arith, w.0, w.1)
