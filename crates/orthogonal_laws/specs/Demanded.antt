-- Words of private functions alone: the search for the next redex.
use Rattle.std.specs.Prelude.{◌≡◌, ℕ, ◌+◌, ◌<◌, ◌≤◌, ◌∷◌, [], Some}
use Rattle.eq_base.specs.Tree.{Tree, size, nth_subtree, Position, number, subtree_at}
use Rattle.eq_base.specs.Rewriting.{System, IsNormal}
use Rattle.eq_base.specs.declared.head.Head.{Head}
use Rattle.orthogonal_laws.specs.Strategy.{IsDemandedRedex}
use Rattle.orthogonal_laws.specs.Next.{IsFirstFit, IsNextRedex}
use Rattle.orthogonal_laws.specs.declared.demand.Fit.{Fit}
use Rattle.orthogonal_laws.specs.declared.next.Next.{Next}
use Rattle.orthogonal_laws.specs.declared.next.Next.TheVariants.{Redex, Normal}

-- the node is the demanded redex of the subterm at another, and the rule is the first that fits there
pub record IsDemandedFit {H : Type 0} (system : System H) (t : Tree H) (at : ℕ) (fit : Fit) : Type 0 where
  pub position : Position
  pub demanded : IsDemandedRedex system (nth_subtree t at) position
  pub there : fit.at < size t
  pub stands : subtree_at (nth_subtree t at) position ≡ Some (nth_subtree t fit.at)
  pub place : fit.at ≡ at + number (nth_subtree t at) position
  pub first : IsFirstFit system fit.equation (nth_subtree t fit.at)

-- the node is the argument of a node in which another lies
pub record IsArgumentToward {H : Type 0} (t : Tree H) (at node argument : ℕ) : Type 0 where
  pub i : ℕ
  pub stands : subtree_at (nth_subtree t at) (i ∷ []) ≡ Some (nth_subtree t argument)
  pub place : argument ≡ at + number (nth_subtree t at) (i ∷ [])
  pub before : argument ≤ node
  pub within : node < argument + size (nth_subtree t argument)

-- the next redex is the one that is answered, or the term is normal
abbrev pub IsNextBy : System Head → Tree Head → Next → Type 0
IsNextBy system t (Redex at equation) = IsNextRedex system t at equation
IsNextBy system t Normal = IsNormal system t
