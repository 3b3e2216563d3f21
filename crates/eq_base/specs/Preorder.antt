-- Words of private functions and fields alone: a vector of cells in preorder, each with its number of arguments
-- and the number after its subtree's last cell.
use Rattle.std.specs.Prelude.{◌≡◌, ℕ, ◌+◌, ◌-◌, ◌*◌, ◌<◌, ◌≤◌, List, [], ◌∷◌, ◌++◌, map, drop, length}
use Rattle.std.specs.Prelude.{slice_index}
use Rattle.eq_base.specs.Tree.{Tree, cells, all_cells}
use Rattle.eq_base.specs.Storing.{forest_of, first_or, first_size}
use Rattle.eq_base.specs.Building.{missing_of}
use Rattle.eq_base.specs.declared.preorder.Node.{Node}

module _ {T : Type 0} where
  -- what stands in the cells, with the numbers of arguments
  abbrev pub labels : List (Node T) → List (T × ℕ)
  labels nodes = map (λ n. (n.item, n.arity)) nodes

  -- the stored ends of the cells
  abbrev pub ends : List (Node T) → List ℕ
  ends nodes = map (λ n. n.end) nodes

  -- after each cell there are as many trees as it has arguments
  abbrev pub IsWhole : List (T × ℕ) → Type 0
  IsWhole ls = all_cells (forest_of ls) ≡ ls

  -- the end of the subtree that begins at cell k
  abbrev pub end_at : List (T × ℕ) → ℕ → ℕ
  end_at ls k = k + first_size (forest_of (drop k ls))

  -- the stored ends from cell n on are right
  abbrev pub EndsFrom : ℕ → List (Node T) → Type 0
  EndsFrom n nodes = (k : ℕ) → n ≤ k → k < length nodes
      → slice_index (ends nodes) k ≡ end_at (labels nodes) k

  -- the tree of a vector, or a leaf where there is none
  abbrev pub tree_of : T → List (Node T) → Tree T
  tree_of default nodes = first_or default (forest_of (labels nodes))

  -- the vector holds the tree's cells in preorder, with the right ends
  pub record IsPreorder (t : Tree T) (nodes : List (Node T)) : Type 0 where
    pub cells : cells t ≡ labels nodes
    pub ends : EndsFrom 0 nodes

  -- ---- a vector that is being filled

  -- these cells fill n missing trees, and none is left over
  abbrev pub Completes : ℕ → List (T × ℕ) → Type 0
  Completes n [] = n ≡ 0
  Completes n (c ∷ cs) = (0 < n) × Completes (n - 1 + c.1) cs

  -- each of the cells so far filled a missing tree, and so many trees are missing now
  pub record IsBegun (so_far : List (T × ℕ)) (missing : ℕ) : Type 0 where
    pub missing_is : missing ≡ missing_of so_far
    pub rest : (more : List (T × ℕ)) → Completes missing more → Completes 1 (so_far ++ more)
    pub few : missing ≤ 1 + 255 * length so_far
