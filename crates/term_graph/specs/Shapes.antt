-- What the nodes of a store hold, and the numbered trees for which they stand.
use Rattle.std.specs.Prelude.{ℕ, zero, suc, ◌<◌, List, [], ◌∷◌, map, length, slice_index_or}
use Rattle.std.specs.List.{AllByRecursion, range_with_len}
use Rattle.eq_base.specs.Tree.{Forest, node, empty, grow}
use Rattle.graph_laws.specs.Numbered.{Numbered}

-- a node holds a head over the nodes of its arguments, or it is an indirection: it stands for what another
-- node stands for
pub data Shape (H : Type 0) : Type 0 where
  own : H → List ℕ → Shape H
  same : ℕ → Shape H

module _ {H : Type 0} where
  -- the nodes to which a node leads
  abbrev pub references : Shape H → List ℕ
  references (own h ms) = ms
  references (same m) = m ∷ []

  -- the trees of these nodes
  abbrev pub forest_by : (ℕ → Numbered H) → List ℕ → Forest (H × ℕ)
  forest_by tree [] = empty
  forest_by tree (m ∷ ms) = grow (tree m) (forest_by tree ms)

  -- the tree of the node n, which holds this, by the trees of the nodes to which it leads
  abbrev pub tree_by : (ℕ → Numbered H) → ℕ → Shape H → Numbered H
  tree_by tree n (own h ms) = node (h, n) (forest_by tree ms)
  tree_by tree n (same m) = tree m

module _ {H : Type 0} (default : H) where
  -- what the node holds
  abbrev pub shape_at : List (Shape H) → ℕ → Shape H
  shape_at shapes n = slice_index_or shapes n (own default [])

  -- the tree of a node, down to so many nodes on a way
  abbrev pub tree_within : ℕ → List (Shape H) → ℕ → Numbered H
  tree_within zero shapes n = node (default, n) empty
  tree_within (suc k) shapes n = tree_by (tree_within k shapes) n (shape_at shapes n)

  -- the tree of a node: no way passes more nodes than there are
  abbrev pub tree_in : List (Shape H) → ℕ → Numbered H
  tree_in shapes n = tree_within (length shapes) shapes n

  -- the trees of all nodes
  abbrev pub trees_in : List (Shape H) → List (Numbered H)
  trees_in shapes = map (tree_in shapes) (range_with_len 0 (length shapes))

  -- the ranks, which are below the number of nodes, fall along each reference
  pub record IsRanked (shapes : List (Shape H)) (rank : ℕ → ℕ) : Type 0 where
    pub few : (n : ℕ) → n < length shapes → rank n < length shapes
    pub falls : (n : ℕ) → n < length shapes
        → AllByRecursion (λ m. (m < length shapes) × (rank m < rank n)) (references (shape_at shapes n))

  -- no way along references leads back to where it began: the nodes have ranks
  abbrev pub IsAcyclic : List (Shape H) → Type 0
  IsAcyclic shapes = (rank : ℕ → ℕ) × IsRanked shapes rank
