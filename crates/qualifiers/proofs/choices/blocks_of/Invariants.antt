use Rattle.std.proofs.Common.{◌≡◌, ℕ, ◌+◌, ◌<◌, length, drop, slice_index}
use Rattle.qualifiers.specs.Choices.{choices_of}
use Rattle.qualifiers.specs.Held.{qualifiers_held}
use Rattle.qualifiers.proofs.Numbers.{ways}
use Rattle.qualifiers.proofs.choices.blocks_of.Given as goal

abbrev pub invariant-loop-i : goal.invariant-loop-i
invariant-loop-i l = record {
  block : l.block ≡ ways (drop l.i (qualifiers_held l.qualifiers));
  len : length l.blocks.items ≡ l.i;
  each : (k : ℕ) → k < l.i → slice_index l.blocks.items k ≡ length (choices_of (drop (k + 1) (qualifiers_held l.qualifiers)));
}
