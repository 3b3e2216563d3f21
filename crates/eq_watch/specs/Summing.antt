-- The sums of the watch `sizes`, as they are stored.
use Rattle.std.specs.Prelude.{ℕ, List, [], ◌∷◌, Option, None, Some}
use Rattle.eq_watch.specs.declared.sizes.Sums.{Sums}

-- the sums, where there was a replacement
abbrev pub numbers_of : Option Sums → List ℕ
numbers_of None = []
numbers_of (Some sums) = sums.replaced ∷ sums.made ∷ sums.last ∷ []
