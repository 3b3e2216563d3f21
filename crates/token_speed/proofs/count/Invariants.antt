use Rattle.std.proofs.Common.{◌≤◌, length}
use Rattle.token_speed.proofs.count.Given as goal

abbrev pub invariant-loop-tokens : goal.invariant-loop-tokens
invariant-loop-tokens l = l.at ≤ length l.text
