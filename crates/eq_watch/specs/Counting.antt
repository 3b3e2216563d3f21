-- Sums that stop at the last number of 64 bits.
use Rattle.std.specs.Prelude.{ℕ, ◌+◌, ◌-◌, ◌^◌, min}

-- a sum, or the last number of 64 bits where that is smaller
abbrev pub sum_up_to_last : ℕ → ℕ → ℕ
sum_up_to_last a b = min (a + b) (2 ^ 64 - 1)
