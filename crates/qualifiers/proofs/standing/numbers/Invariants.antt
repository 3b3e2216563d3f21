use Rattle.std.proofs.Common.{◌≡◌, ℕ, ◌<◌, length, slice_index}
use Rattle.qualifiers.proofs.standing.numbers.Given as goal

abbrev pub invariant-loop-i : goal.invariant-loop-i
invariant-loop-i l = record {
  len : length l.numbers.items ≡ l.i;
  each : (k : ℕ) → k < l.i → slice_index l.numbers.items k ≡ k;
}
