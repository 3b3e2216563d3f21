-- A run in phases, each of which goes on with what it found or ends the run.
use Rattle.std.specs.Prelude.{◌≡◌, ◌⊎◌, Result, Ok, Err}

-- the relation holds of one thing at most
abbrev pub HasOne : {R : Type 0} → (R → Type 0) → Type 0
HasOne {R = R} Comes = (r s : R) → Comes r → Comes s → r ≡ s

module _ {E B C : Type 0} where
  -- the first phase ends the run, or the second goes on with what it found
  abbrev pub Then : (Result B E → Type 0) → (B → Result C E → Type 0) → Result C E → Type 0
  Then First Second r =
      ((end : E) × First (Err end) × (r ≡ Err end)) ⊎ ((found : B) × First (Ok found) × Second found r)
