-- Division of integers, after Euclid.
use Rattle.std.specs.Prelude.{◌≡◌, ℤ, pos, ◌+ℤ◌, ◌*ℤ◌, ◌≤ℤ◌, ◌<ℤ◌, unsigned_abs}

-- a is b times the quotient and the remainder, which lies from 0 to below the absolute value of b
pub record IsDivision (a b quotient remainder : ℤ) : Type 0 where
  pub whole : a ≡ b *ℤ quotient +ℤ remainder
  pub least : pos 0 ≤ℤ remainder
  pub below : remainder <ℤ pos (unsigned_abs b)
