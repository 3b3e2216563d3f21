-- The counts of the watch `profile`, as they are stored.
use Rattle.std.specs.Prelude.{ℕ, ◌<◌, ◌≤◌, List, [], ◌∷◌}
use Rattle.std.specs.List.Sorted.{IsNonDecreasingBy, IsPartitionPoint}
use Rattle.eq_watch.specs.declared.profile.Used.{Used}
use Rattle.eq_watch.specs.Profiling.{profile_line}

-- each equation with its count
abbrev pub counts_of : List Used → List ℕ
counts_of [] = []
counts_of (used ∷ rest) = used.equation ∷ used.times ∷ counts_of rest

-- no equation stands before a smaller one
abbrev pub IsInOrder : List Used → Type 0
IsInOrder all = IsNonDecreasingBy (λ used. used.equation) all

-- smaller equations stand before this place, and no smaller ones from it on
abbrev pub IsPlaceOf : ℕ → List Used → ℕ → Type 0
IsPlaceOf equation all at =
    IsPartitionPoint (λ used. used.equation < equation) (λ used. equation ≤ used.equation) all at

-- the line of an equation
abbrev pub used_line : Used → List ℕ
used_line used = profile_line used.equation used.times
