-- What a run comes to where no port fails.
use Rattle.std.specs.Prelude.{◌≡◌, ℕ, ◌++◌, List, [], Option, Some}
use Rattle.ei_program.specs.Outcomes.{Told}

-- what a run leaves of its input: all of it, nothing, or some back of it
pub data Rest : Type 0 where
  untouched : Rest
  nothing : Rest
  some_back : Rest

-- the lines that a run writes, what is told of it, and what it leaves of its input
pub record Done : Type 0 where
  pub lines : List (List ℕ)
  pub told : Told
  pub rest : Rest

-- a run that ends so before it writes a line, and leaves its input as it was
abbrev pub ended_early : Told → Done
ended_early told = record { lines = []; told = told; rest = untouched }

-- what is left of the input
abbrev pub IsLeft : List ℕ → Rest → Option (List ℕ) → Type 0
IsLeft input untouched left = left ≡ Some input
IsLeft input nothing left = left ≡ Some []
IsLeft input some_back left =
    (front : List ℕ) × (back : List ℕ) × (input ≡ front ++ back) × (left ≡ Some back)
