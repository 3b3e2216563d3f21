use Rattle.std.proofs.Common.{◌≡◌, ◌+◌, ℕ, List, drop}
use Rattle.term_lex.proofs.Gaps.{Passed}
use Rattle.ei_program.proofs.gap.skipped.Given as goal

-- all that has been passed is skipped, and the last comment is open or not
abbrev pub invariant-loop-byte : goal.invariant-loop-byte
invariant-loop-byte l = record {
  passed : l.len ≡ l.byte-index;
  state : (text : List ℕ) (from : ℕ) → drop from text ≡ l.bytes → Passed text from l.in_comment → Passed text (from + l.len) l.inside;
}
