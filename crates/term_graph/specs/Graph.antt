-- What contracts see of a store.
use Rattle.std.specs.Prelude.{◌≡◌, ℕ, ◌<◌, ◌∷◌, [], List, map, Bool, length, Some, slice_index_or, refl}
use Rattle.std.specs.Coded.{Coded, code_by, coded×, coded_list, coded_bool, coded_ℕ}
use Rattle.eq_base.specs.Tree.{Tree, node, empty, subtree_at}
use Rattle.eq_base.specs.Storing.{tree_code}
use Rattle.eq_base.specs.View.{tree_at}
use Rattle.eq_base.specs.declared.head.Head.{Head}
use Rattle.eq_base.specs.declared.head.Head.TheVariants.{Symbol}
use Rattle.graph_laws.specs.Numbered.{Numbered, plain, root_number}

-- a store: the numbered trees of its nodes, which of them are marked, and how many cells of right sides it
-- has room for
pub record Graph : Type 0 where
  pub trees : List (Numbered Head)
  pub marks : List Bool
  pub spare : ℕ

-- the numbered tree of a node, or a leaf past the last one
abbrev pub numbered_at : Graph → ℕ → Numbered Head
numbered_at g n = slice_index_or g.trees n (node (Symbol 0, 0) empty)

-- the terms for which the nodes stand
abbrev pub terms_of : Graph → List (Tree Head)
terms_of g = map plain g.trees

-- the term for which a node stands
abbrev pub term_at : Graph → ℕ → Tree Head
term_at g n = tree_at (terms_of g) n

-- the node is no indirection: its own number is at the root of its tree
pub record IsFollowed (g : Graph) (n : ℕ) : Type 0 where
  pub there : n < length g.trees
  pub own : root_number (numbered_at g n) ≡ n

-- node m is no indirection, and stands for what node n stands for
pub record LeadsTo (g : Graph) (n m : ℕ) : Type 0 where
  pub followed : IsFollowed g m
  pub same : numbered_at g n ≡ numbered_at g m

-- node m is no indirection, and stands for the i-th argument of node n
pub record IsNumberedArgument (g : Graph) (n i m : ℕ) : Type 0 where
  pub followed : IsFollowed g m
  pub stands : subtree_at (numbered_at g n) (i ∷ []) ≡ Some (numbered_at g m)

-- a store is stored as its fields
abbrev pub graph_code : Coded Head → Coded Graph
graph_code c =
    code_by (List (Numbered Head) × (List Bool × ℕ))
    (coded× (coded_list (tree_code (coded× c coded_ℕ))) (coded× (coded_list coded_bool) coded_ℕ))
    (λ g. (g.trees, (g.marks, g.spare)))
    (λ p. record { trees = p.0; marks = p.1.0; spare = p.1.1 })
    (λ _. refl)
