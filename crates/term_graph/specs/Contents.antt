-- What the vectors of a store hold.
use Rattle.std.specs.Prelude.{◌≡◌, ℕ, ℤ, ◌*◌, ◌^◌, zero, suc, ◌+◌, ◌<◌, ◌≤◌, List, [], Bool, map, take, drop, length, slice_index_or}
use Rattle.std.specs.Int.{w128, cast_signed}
use Rattle.std.specs.List.{AllByRecursion}
use Rattle.eq_base.specs.declared.head.Head as heads
use Rattle.eq_base.specs.declared.head.Head.TheVariants as head
use Rattle.term_graph.specs.declared.content.Content.{Content}
use Rattle.term_graph.specs.declared.content.Content.TheVariants.{Symbol, Numeral, Atom, Text, Same}
use Rattle.graph_laws.specs.Numbered.{Numbered}
use Rattle.term_graph.specs.Shapes.{Shape, own, same, IsAcyclic, trees_in}

-- the integer whose bits are these halves
abbrev pub whole_of : ℕ → ℕ → ℤ
whole_of high low = cast_signed w128 (high * 2 ^ 64 + low)

-- what the node holds; a symbol's arguments stand one after another in the vector of arguments
abbrev pub shape_of : List ℕ → Content → Shape heads.Head
shape_of args (Symbol s arity first) = own (head.Symbol s) (take arity (drop first args))
shape_of args (Numeral high low) = own (head.Numeral (whole_of high low)) []
shape_of args (Atom a) = own (head.Atom a) []
shape_of args (Text t) = own (head.Text t) []
shape_of args (Same m) = same m

-- what all nodes hold
abbrev pub shapes_of : List ℕ → List Content → List (Shape heads.Head)
shapes_of args nodes = map (shape_of args) nodes

-- the node is no indirection
abbrev pub IsOwn : Content → Type 0
IsOwn (Symbol s arity first) = Unit {0}
IsOwn (Numeral high low) = Unit {0}
IsOwn (Atom a) = Unit {0}
IsOwn (Text t) = Unit {0}
IsOwn (Same m) = ⊥

-- the node holds this integer
abbrev pub IsNumeral : ℤ → Content → Type 0
IsNumeral i c = (high : ℕ) × (low : ℕ) × (c ≡ Numeral high low) × (whole_of high low ≡ i)

-- the head of a node that is no indirection
abbrev pub head_in : Content → heads.Head
head_in (Symbol s arity first) = head.Symbol s
head_in (Numeral high low) = head.Numeral (whole_of high low)
head_in (Atom a) = head.Atom a
head_in (Text t) = head.Text t
head_in (Same m) = head.Symbol 0

-- how many arguments the node has
abbrev pub arity_of_content : Content → ℕ
arity_of_content (Symbol s arity first) = arity
arity_of_content (Numeral high low) = 0
arity_of_content (Atom a) = 0
arity_of_content (Text t) = 0
arity_of_content (Same m) = 0

-- where the arguments of the node begin
abbrev pub first_in : Content → ℕ
first_in (Symbol s arity first) = first
first_in (Numeral high low) = 0
first_in (Atom a) = 0
first_in (Text t) = 0
first_in (Same m) = 0

-- the arguments of the node stand in the vector of arguments
abbrev pub HasArgumentsWithin : ℕ → Content → Type 0
HasArgumentsWithin len c = first_in c + arity_of_content c ≤ len

-- no way leads back to where it began, and all arguments are there
pub record AreNodes (args : List ℕ) (nodes : List Content) : Type 0 where
  pub acyclic : IsAcyclic (head.Symbol 0) (shapes_of args nodes)
  pub within : AllByRecursion (HasArgumentsWithin (length args)) nodes

-- the trees of the nodes
abbrev pub trees_of : List ℕ → List Content → List (Numbered heads.Head)
trees_of args nodes = trees_in (head.Symbol 0) (shapes_of args nodes)

-- from the node, indirections lead to this one, which is none
pub data Leads (nodes : List Content) : ℕ → ℕ → Type 0 where
  here : {n : ℕ} → n < length nodes → IsOwn (slice_index_or nodes n (Symbol 0 0 0)) → Leads nodes n n
  pass : {n k m : ℕ} → n < length nodes → slice_index_or nodes n (Symbol 0 0 0) ≡ Same k → Leads nodes k m
      → Leads nodes n m

-- how many indirections are passed from a node, at most so many
abbrev pub passed : ℕ → List Content → ℕ → ℕ
passed zero nodes n = 0
passed (suc k) nodes n =
    elim (slice_index_or nodes n (Symbol 0 0 0)) [
      | Symbol s arity first ↦ 0
      | Numeral high low ↦ 0
      | Atom a ↦ 0
      | Text t ↦ 0
      | Same m ↦ suc (passed k nodes m)
    ]

-- indirections lead on to other nodes, along which ranks fall that are below the number of nodes
pub record IsChained (nodes : List Content) : Type 0 where
  pub rank : ℕ → ℕ
  pub few : (n : ℕ) → n < length nodes → rank n < length nodes
  pub falls : (n m : ℕ) → n < length nodes → slice_index_or nodes n (Symbol 0 0 0) ≡ Same m
      → (m < length nodes) × (rank m < rank n)

-- what the vectors of a store keep, and how many places its scratch vectors have at least: as many as a left
-- side has cells
pub record IsStore (args : List ℕ) (nodes : List Content) (marks : List Bool) (pending met : ℕ) : Type 0 where
  pub nodes_kept : AreNodes args nodes
  pub marks_kept : length marks ≡ length nodes
  pub pending_room : 255 ≤ pending
  pub met_room : 255 ≤ met
