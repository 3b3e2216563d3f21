-- The sizes of the trees of a store.
use Rattle.std.specs.Prelude.{◌≡◌, ℕ, suc, ◌+◌, ◌<◌, ◌^◌, min, List, [], ◌∷◌, take, length, slice_index_or}
use Rattle.std.specs.List.{AllByRecursion}
use Rattle.eq_base.specs.Tree.{size}
use Rattle.eq_base.specs.declared.head.Head as heads
use Rattle.term_graph.specs.declared.content.Content.{Content}
use Rattle.term_graph.specs.Shapes.{Shape, own, same}
use Rattle.term_graph.specs.Binding.{node_tree}

-- the number, or the most that is counted
abbrev pub capped : ℕ → ℕ
capped n = min n (2 ^ 40)

-- the size that is stored for a node, or 0 where none is
abbrev pub stored_size : List ℕ → ℕ → ℕ
stored_size sizes n = slice_index_or sizes n 0

-- the stored sizes of these nodes together
abbrev pub total_of : List ℕ → List ℕ → ℕ
total_of sizes [] = 0
total_of sizes (m ∷ ms) = stored_size sizes m + total_of sizes ms

-- the size of a node's tree by the stored sizes
abbrev pub size_by : List ℕ → Shape heads.Head → ℕ
size_by sizes (own h ms) = capped (suc (total_of sizes ms))
size_by sizes (same m) = stored_size sizes m

-- each node has a place, and what is stored there, if it is not 0, is the size of its tree
pub record AreSizes (args : List ℕ) (nodes : List Content) (sizes : List ℕ) : Type 0 where
  pub long : length sizes ≡ length nodes
  pub right : (n : ℕ) → n < length nodes → (stored_size sizes n ≡ 0 → ⊥)
      → stored_size sizes n ≡ capped (size (node_tree args nodes n))

-- a size is stored for each of these nodes
abbrev pub AreKnown : List ℕ → List ℕ → Type 0
AreKnown sizes ms = AllByRecursion (λ m. stored_size sizes m ≡ 0 → ⊥) ms

-- no size is stored for the node at this place among these, and one is for each node before it
pub record IsNextUnknown (sizes ms : List ℕ) (k : ℕ) : Type 0 where
  pub there : k < length ms
  pub unknown : stored_size sizes (slice_index_or ms k 0) ≡ 0
  pub known : AreKnown sizes (take k ms)
