-- Replacements in a store, one after another.
use Rattle.std.specs.Prelude.{◌≡◌, ℕ, zero, suc, List, [], ◌∷◌, Some, slice_get}
use Rattle.eq_base.specs.Tree.{Tree, Position, node, empty, subtree_at}
use Rattle.eq_base.specs.Rewriting.{pattern, operation, Rule, System, IsRedexBy, IsFirst}
use Rattle.orthogonal_laws.specs.Strategy.{IsNext}
use Rattle.graph_laws.specs.Numbered.{Numbered, plain, root_number}
use Rattle.graph_laws.specs.Replacing.{IsReplacement, replace_in_all}

module _ {H : Type 0} where
  -- the second trees are the first after the node n got this constant
  abbrev pub IsPut : H → ℕ → List (Numbered H) → List (Numbered H) → Type 0
  IsPut h n trees after = after ≡ replace_in_all n (node (h, n) empty) trees

  -- the second trees are the first after the node n, whose term is t, is replaced by the rule
  abbrev pub ReplacesBy : System H → Rule H → ℕ → Tree H → List (Numbered H) → List (Numbered H) → Type 0
  ReplacesBy system rule n t trees after =
      elim rule.right [
        | pattern p ↦ IsReplacement rule.left p n trees after
        | operation op ↦ (h : H) × (system.value_of op t ≡ Some (node h empty)) × IsPut h n trees after
      ]

  -- the second trees are the first after the node n, which is no indirection and a redex, is replaced by the
  -- first rule that fits
  pub record IsReplaced (system : System H) (n : ℕ) (trees after : List (Numbered H)) : Type 0 where
    pub tree : Numbered H
    pub stands : slice_get trees n ≡ Some tree
    pub followed : root_number tree ≡ n
    pub number : ℕ
    pub rule : Rule H
    pub listed : slice_get system.rules number ≡ Some rule
    pub redex : IsRedexBy system number (plain tree)
    pub first : IsFirst system number (plain tree)
    pub replaces : ReplacesBy system rule n (plain tree) trees after

  -- a replacement list: these nodes are replaced one after another, in any order, and lead to the last trees
  pub data ReplacementList (system : System H) : List (Numbered H) → List ℕ → List (Numbered H) → Type 0 where
    done : {trees : List (Numbered H)} → ReplacementList system trees [] trees
    next : {trees between after : List (Numbered H)} {n : ℕ} {ns : List ℕ} → IsReplaced system n trees between
        → ReplacementList system between ns after → ReplacementList system trees (n ∷ ns) after

  -- the node with the number at the next redex of the root's term
  pub record IsNextNode (system : System H) (trees : List (Numbered H)) (root n : ℕ) : Type 0 where
    pub tree : Numbered H
    pub stands : slice_get trees root ≡ Some tree
    pub position : Position
    pub next : IsNext system (plain tree) position
    pub part : Numbered H
    pub there : subtree_at tree position ≡ Some part
    pub own : root_number part ≡ n

  -- the graph run: so many replacements, each at the next redex of the root's term, lead to the last trees
  pub data GraphRun (system : System H) (root : ℕ) (trees : List (Numbered H)) : ℕ → List (Numbered H)
      → Type 0 where
    start : GraphRun system root trees zero trees
    then : {k n : ℕ} {between after : List (Numbered H)} → GraphRun system root trees k between
        → IsNextNode system between root n → IsReplaced system n between after
        → GraphRun system root trees (suc k) after
