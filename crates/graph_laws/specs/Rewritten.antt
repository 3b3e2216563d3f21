-- What one replacement is for the terms of a store: one root step at several positions.
use Rattle.std.specs.Prelude.{◌≡◌, ◌↔◌, ℕ, List, [], ◌∷◌, IsTrue, Some, slice_get}
use Rattle.eq_base.specs.Tree.{Tree, head_of, arity_of, Position, subtree_at}
use Rattle.eq_base.specs.Rewriting.{System, RootStep}
use Rattle.orthogonal_laws.specs.Development.{Development, marks, Replaced, replaces}
use Rattle.graph_laws.specs.Numbered.{Numbered, plain, root_number}

module _ {H : Type 0} where
  -- the part at the position has the number
  pub record HasNumber (t : Numbered H) (q : Position) (n : ℕ) : Type 0 where
    pub part : Numbered H
    pub stands : subtree_at t q ≡ Some part
    pub own : root_number part ≡ n

  -- without numbers, the second tree is the first after one root step at each of the parts numbered n, none
  -- of them inside another
  pub record IsRewritten (system : System H) (n : ℕ) (t u : Numbered H) : Type 0 where
    pub redex : Tree H
    pub contractum : Tree H
    pub root_step : RootStep system redex contractum
    pub replaced : Replaced redex contractum (plain t) (plain u)
    pub exactly : (q : Position) → IsTrue (replaces replaced q) ↔ HasNumber t q n

  -- u is a development of t that marks exactly the positions of the parts numbered n
  pub record DevelopsAt (system : System H) (n : ℕ) (t u : Numbered H) : Type 0 where
    pub weight : ℕ
    pub development : Development system (plain t) (plain u) weight
    pub exactly : (q : Position) → IsTrue (marks development q) ↔ HasNumber t q n

  -- the second tree has the head, the number and as many arguments as the first, and each argument is the
  -- tree that the node with the argument's old number has afterwards
  pub record IsSameNode (after : List (Numbered H)) (t u : Numbered H) : Type 0 where
    pub root : head_of u ≡ head_of t
    pub count : arity_of u ≡ arity_of t
    pub arguments : (i : ℕ) (a : Numbered H) → subtree_at t (i ∷ []) ≡ Some a → (b : Numbered H)
        × (subtree_at u (i ∷ []) ≡ Some b) × (slice_get after (root_number a) ≡ Some b)
