-- Which faults come from the end of the bytes.
use Rattle.std.specs.Prelude.{◌≡◌, ◌≢◌, ◌⊎◌, ℕ, ◌≤◌, List, Some, slice_get}
use Rattle.term_lex.specs.declared.fault.Fault.{Fault}
use Rattle.term_lex.specs.declared.fault.FaultKind.TheVariants.{Unended, OpenString}

-- the bytes ended where more was needed: no token was left, or a string was not closed and no newline stands
-- behind its quote
abbrev pub BytesEnded : List ℕ → Fault → Type 0
BytesEnded window fault =
    (fault.kind ≡ Unended)
    ⊎ ((fault.kind ≡ OpenString)
    × ((place : ℕ) → fault.byte ≤ place → slice_get window place ≢ Some 10))
