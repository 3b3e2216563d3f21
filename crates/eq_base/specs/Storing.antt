-- How trees and patterns are stored: a tree as the list of its cells.
use Rattle.std.specs.Prelude.{◌≡◌, ℕ, zero, suc, ◌⊎◌, List, [], ◌∷◌, ◌++◌, refl}
use Rattle.std.specs.Coded.{Coded, code_by, coded×, coded⊎, coded_list, coded_ℕ}
use Rattle.std.proofs.Common.{sym, ◌∙◌, ap, append_assoc, inl, inr}
use Rattle.std.proofs.lemmas.List.{append-nil}
use Rattle.eq_base.specs.Tree.{Tree, Forest, node, empty, grow, head_of, args_of, count, size, cells}
use Rattle.eq_base.specs.Tree.{all_cells}
use Rattle.eq_base.specs.Pattern.{PatternCell, fixed, variable, restricted}

-- ---- trees from cells

-- the first n trees
abbrev pub first_trees : {A : Type 0} → ℕ → Forest A → Forest A
first_trees zero ts = empty
first_trees (suc n) empty = empty
first_trees (suc n) (grow t ts) = grow t (first_trees n ts)

-- the trees after the first n
abbrev pub later_trees : {A : Type 0} → ℕ → Forest A → Forest A
later_trees zero ts = ts
later_trees (suc n) empty = empty
later_trees (suc n) (grow t ts) = later_trees n ts

-- the trees of a list of cells: each cell takes as many of the trees after it as it has arguments
abbrev pub forest_of : {A : Type 0} → List (A × ℕ) → Forest A
forest_of [] = empty
forest_of (c ∷ cs) = grow (node c.0 (first_trees c.1 (forest_of cs))) (later_trees c.1 (forest_of cs))

-- the first tree, or a leaf where there is none
abbrev pub first_or : {A : Type 0} → A → Forest A → Tree A
first_or a empty = node a empty
first_or a (grow t ts) = t

-- the size of the first tree, or 0 where there is none
abbrev pub first_size : {A : Type 0} → Forest A → ℕ
first_size empty = 0
first_size (grow t ts) = size t

-- trees and more trees after them
abbrev pub join : {A : Type 0} → Forest A → Forest A → Forest A
join empty us = us
join (grow t ts) us = grow t (join ts us)

pub first_trees-join : {A : Type 0} → (ts us : Forest A) → first_trees (count ts) (join ts us) ≡ ts
first_trees-join empty us = refl
first_trees-join (grow t ts) us = ap (grow t) (first_trees-join ts us)

pub later_trees-join : {A : Type 0} → (ts us : Forest A) → later_trees (count ts) (join ts us) ≡ us
later_trees-join empty us = refl
later_trees-join (grow t ts) us = later_trees-join ts us

pub join-empty : {A : Type 0} → (ts : Forest A) → join ts empty ≡ ts
join-empty empty = refl
join-empty (grow t ts) = ap (grow t) (join-empty ts)

mutual
  pub forest_of-cells-append : {A : Type 0} → (t : Tree A) (cs : List (A × ℕ))
      → forest_of (cells t ++ cs) ≡ grow t (forest_of cs)
  forest_of-cells-append (node a args) cs =
      rw (
        forest_of-all_cells-append args cs,
        first_trees-join args (forest_of cs),
        later_trees-join args (forest_of cs),
      )
      refl

  pub forest_of-all_cells-append : {A : Type 0} → (ts : Forest A) (cs : List (A × ℕ))
      → forest_of (all_cells ts ++ cs) ≡ join ts (forest_of cs)
  forest_of-all_cells-append empty cs = refl
  forest_of-all_cells-append (grow t ts) cs =
      rw (
        append_assoc (cells t) (all_cells ts) cs,
        forest_of-cells-append t (all_cells ts ++ cs),
        forest_of-all_cells-append ts cs,
      )
      refl

pub forest_of-all_cells : {A : Type 0} → (ts : Forest A) → forest_of (all_cells ts) ≡ ts
forest_of-all_cells ts =
    ap forest_of (sym (append-nil (all_cells ts))) ∙ forest_of-all_cells-append ts [] ∙ join-empty ts

-- ---- codes

-- a list of trees is stored as its cells
abbrev pub forest_code : {A : Type 0} → Coded A → Coded (Forest A)
forest_code {A} c =
    code_by (List (A × ℕ)) (coded_list (coded× c coded_ℕ)) all_cells forest_of forest_of-all_cells

pub node-parts : {A : Type 0} → (t : Tree A) → node (head_of t) (args_of t) ≡ t
node-parts (node a args) = refl

-- a tree is stored as its head and its arguments
abbrev pub tree_code : {A : Type 0} → Coded A → Coded (Tree A)
tree_code {A} c =
    code_by (A × Forest A) (coded× c (forest_code c))
    (λ t. (head_of t, args_of t)) (λ p. node p.0 p.1) node-parts

module _ {H : Type 0} where
  abbrev split : PatternCell H → H ⊎ (ℕ ⊎ (ℕ × ℕ))
  split (fixed h) = inl h
  split (variable x) = inr (inl x)
  split (restricted x class) = inr (inr (x, class))

  abbrev unsplit : H ⊎ (ℕ ⊎ (ℕ × ℕ)) → PatternCell H
  unsplit (inl h) = fixed h
  unsplit (inr (inl x)) = variable x
  unsplit (inr (inr p)) = restricted p.0 p.1

  pub unsplit-split : (c : PatternCell H) → unsplit (split c) ≡ c
  unsplit-split (fixed h) = refl
  unsplit-split (variable x) = refl
  unsplit-split (restricted x class) = refl

  -- a pattern's cell is stored as one of its three kinds
  abbrev pub cell_code : Coded H → Coded (PatternCell H)
  cell_code c =
      code_by (H ⊎ (ℕ ⊎ (ℕ × ℕ))) (coded⊎ c (coded⊎ coded_ℕ (coded× coded_ℕ coded_ℕ)))
      split unsplit unsplit-split
