-- The next redex of a term, as a node.
use Rattle.std.specs.Prelude.{ℕ, ◌<◌}
use Rattle.eq_base.specs.Tree.{Tree, size, nth_subtree, nth_position}
use Rattle.eq_base.specs.Rewriting.{System, IsRedexBy, IsFirst}
use Rattle.orthogonal_laws.specs.Strategy.{IsNext}

-- the rule with this number is the first that fits the tree
pub record IsFirstFit {H : Type 0} (system : System H) (number : ℕ) (t : Tree H) : Type 0 where
  pub redex : IsRedexBy system number t
  pub first : IsFirst system number t

-- the next redex is the node with this number, and the rule is the first that fits there
pub record IsNextRedex {H : Type 0} (system : System H) (t : Tree H) (at equation : ℕ) : Type 0 where
  pub there : at < size t
  pub next : IsNext system t (nth_position t at)
  pub first : IsFirstFit system equation (nth_subtree t at)
