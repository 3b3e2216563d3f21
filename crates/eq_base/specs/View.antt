-- Terms by their nodes.
use Rattle.std.specs.Prelude.{◌≡◌, ℕ, ◌<◌, List, [], ◌∷◌, length, Some, slice_index_or}
use Rattle.eq_base.specs.Tree.{Tree, node, empty, subtree_at}
use Rattle.eq_base.specs.declared.head.Head.{Head}
use Rattle.eq_base.specs.declared.head.Head.TheVariants.{Symbol}

-- the tree of a node, or a leaf past the last node
abbrev pub tree_at : List (Tree Head) → ℕ → Tree Head
tree_at trees n = slice_index_or trees n (node (Symbol 0) empty)

-- node m stands for the i-th argument of node n
pub record IsArgument (trees : List (Tree Head)) (n i m : ℕ) : Type 0 where
  pub there : m < length trees
  pub stands : subtree_at (tree_at trees n) (i ∷ []) ≡ Some (tree_at trees m)
