-- Numbers as far as numerals need them.
use Rattle.std.specs.Prelude.{◌≡◌, ℕ, ◌<◌, ◌≤◌, ◌^◌, Option, Some, None}

-- the number, or none past 2^127
abbrev pub IsSize : ℕ → Option ℕ → Type 0
IsSize n (Some size) = (size ≡ n) × (n ≤ 2 ^ 127)
IsSize n None = 2 ^ 127 < n
