-- Building a tree from its cells in preorder.
use Rattle.std.specs.Prelude.{ℕ, ◌+◌, ◌-◌, List, [], ◌∷◌}

-- how many of n missing trees are missing after these cells: each cell fills one and asks for its arguments
abbrev pub missing_from : {A : Type 0} → ℕ → List (A × ℕ) → ℕ
missing_from n [] = n
missing_from n (c ∷ cs) = missing_from (n - 1 + c.1) cs

-- how many trees are missing after these cells, where one tree is to be built
abbrev pub missing_of : {A : Type 0} → List (A × ℕ) → ℕ
missing_of cs = missing_from 1 cs
