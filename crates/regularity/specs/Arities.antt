-- Heads with fixed numbers of arguments.
use Rattle.std.specs.Prelude.{◌≡◌, ℕ}
use Rattle.eq_base.specs.Tree.{Tree, Forest, node, empty, grow, count}
use Rattle.eq_base.specs.Pattern.{PatternCell, fixed, variable, restricted}

module _ {H : Type 0} where
  -- each head of the pattern has its number of arguments, and a variable has none
  abbrev mutual
    pub HasArities : (H → ℕ) → Tree (PatternCell H) → Type 0
    HasArities arity (node (fixed h) ps) = (count ps ≡ arity h) × HaveArities arity ps
    HasArities arity (node (variable x) ps) = ps ≡ empty
    HasArities arity (node (restricted x class) ps) = ps ≡ empty

    pub HaveArities : (H → ℕ) → Forest (PatternCell H) → Type 0
    HaveArities arity empty = Unit {0}
    HaveArities arity (grow p ps) = HasArities arity p × HaveArities arity ps

  -- the two patterns agree on the number of arguments of each head
  pub record AgreeOnArities (p r : Tree (PatternCell H)) : Type 0 where
    pub arity : H → ℕ
    pub one : HasArities arity p
    pub other : HasArities arity r
