-- Finite trees with a head at each node, their positions and their subtrees.
use Rattle.std.specs.Prelude.{◌≡◌, ℕ, zero, suc, ◌+◌, ◌<◌, ◌⊎◌, List, [], ◌∷◌, ◌++◌, map, Option, Some, None}
use Rattle.std.specs.Prelude.{slice_index_or}

mutual
  -- a head over its arguments
  pub data Tree (A : Type 0) : Type 0 where
    node : A → Forest A → Tree A

  -- a list of trees
  pub data Forest (A : Type 0) : Type 0 where
    empty : Forest A
    grow : Tree A → Forest A → Forest A

-- the head at the root
abbrev pub head_of : {A : Type 0} → Tree A → A
head_of (node a args) = a

-- the arguments of the root
abbrev pub args_of : {A : Type 0} → Tree A → Forest A
args_of (node a args) = args

-- how many trees
abbrev pub count : {A : Type 0} → Forest A → ℕ
count empty = 0
count (grow t ts) = suc (count ts)

-- how many arguments the root has
abbrev pub arity_of : {A : Type 0} → Tree A → ℕ
arity_of t = count (args_of t)

-- how many nodes
abbrev mutual
  pub size : {A : Type 0} → Tree A → ℕ
  size (node a args) = suc (total_size args)

  pub total_size : {A : Type 0} → Forest A → ℕ
  total_size empty = 0
  total_size (grow t ts) = size t + total_size ts

-- the same tree with other heads
abbrev mutual
  pub map_heads : {A B : Type 0} → (A → B) → Tree A → Tree B
  map_heads f (node a args) = node (f a) (map_all_heads f args)

  pub map_all_heads : {A B : Type 0} → (A → B) → Forest A → Forest B
  map_all_heads f empty = empty
  map_all_heads f (grow t ts) = grow (map_heads f t) (map_all_heads f ts)

-- each head of the tree has the property
abbrev mutual
  pub AllHeads : {A : Type 0} → (A → Type 0) → Tree A → Type 0
  AllHeads P (node a args) = P a × AllHeadsIn P args

  pub AllHeadsIn : {A : Type 0} → (A → Type 0) → Forest A → Type 0
  AllHeadsIn P empty = Unit {0}
  AllHeadsIn P (grow t ts) = AllHeads P t × AllHeadsIn P ts

-- ---- positions

-- the numbers of the arguments on the way from the root, counted from 0
abbrev pub Position : Type 0
Position = List ℕ

-- the subtree at a position
abbrev mutual
  pub subtree_at : {A : Type 0} → Tree A → Position → Option (Tree A)
  subtree_at t [] = Some t
  subtree_at (node a args) (i ∷ q) = subtree_in args i q

  pub subtree_in : {A : Type 0} → Forest A → ℕ → Position → Option (Tree A)
  subtree_in empty i q = None
  subtree_in (grow t ts) zero q = subtree_at t q
  subtree_in (grow t ts) (suc i) q = subtree_in ts i q

-- the tree with another subtree at a position
abbrev mutual
  pub replace_at : {A : Type 0} → Tree A → Position → Tree A → Tree A
  replace_at t [] u = u
  replace_at (node a args) (i ∷ q) u = node a (replace_in args i q u)

  pub replace_in : {A : Type 0} → Forest A → ℕ → Position → Tree A → Forest A
  replace_in empty i q u = empty
  replace_in (grow t ts) zero q u = grow (replace_at t q u) ts
  replace_in (grow t ts) (suc i) q u = grow t (replace_in ts i q u)

-- p comes before q in preorder
abbrev pub IsBefore : Position → Position → Type 0
IsBefore p [] = ⊥
IsBefore [] (j ∷ q) = Unit {0}
IsBefore (i ∷ p) (j ∷ q) = (i < j) ⊎ ((i ≡ j) × IsBefore p q)

-- ---- preorder

-- the number of a position in preorder: how many nodes come before it
abbrev mutual
  pub number : {A : Type 0} → Tree A → Position → ℕ
  number t [] = 0
  number (node a args) (i ∷ q) = suc (number_in args i q)

  pub number_in : {A : Type 0} → Forest A → ℕ → Position → ℕ
  number_in empty i q = 0
  number_in (grow t ts) zero q = number t q
  number_in (grow t ts) (suc i) q = size t + number_in ts i q

-- the subtrees in preorder
abbrev mutual
  pub subtrees : {A : Type 0} → Tree A → List (Tree A)
  subtrees (node a args) = node a args ∷ all_subtrees args

  pub all_subtrees : {A : Type 0} → Forest A → List (Tree A)
  all_subtrees empty = []
  all_subtrees (grow t ts) = subtrees t ++ all_subtrees ts

-- their positions; of a list of trees, the number of the tree and the position in it
abbrev mutual
  pub positions : {A : Type 0} → Tree A → List Position
  positions (node a args) = [] ∷ map (λ p. p.0 ∷ p.1) (all_positions args)

  pub all_positions : {A : Type 0} → Forest A → List (ℕ × Position)
  all_positions empty = []
  all_positions (grow t ts) = map (λ q. (0, q)) (positions t) ++ map (λ p. (suc p.0, p.1)) (all_positions ts)

-- the subtree with a number in preorder, counted from 0
abbrev pub nth_subtree : {A : Type 0} → Tree A → ℕ → Tree A
nth_subtree t n = slice_index_or (subtrees t) n t

-- the position with a number in preorder
abbrev pub nth_position : {A : Type 0} → Tree A → ℕ → Position
nth_position t n = slice_index_or (positions t) n []

-- the cells of the tree: its heads in preorder, each with its number of arguments
abbrev mutual
  pub cells : {A : Type 0} → Tree A → List (A × ℕ)
  cells (node a args) = (a, count args) ∷ all_cells args

  pub all_cells : {A : Type 0} → Forest A → List (A × ℕ)
  all_cells empty = []
  all_cells (grow t ts) = cells t ++ all_cells ts
