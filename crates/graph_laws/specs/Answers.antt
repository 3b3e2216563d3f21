-- How a graph run ends with a budget.
use Rattle.std.specs.Prelude.{◌≡◌, ◌↔◌, ℕ, ◌≤◌, List, Option, Some, None, Contains}
use Rattle.eq_base.specs.Tree.{Tree}
use Rattle.eq_base.specs.Pattern.{PatternCell}
use Rattle.eq_base.specs.Rewriting.{pattern, Rule, System}
use Rattle.graph_laws.specs.Numbered.{Numbered}
use Rattle.graph_laws.specs.Replacing.{new_count}
use Rattle.graph_laws.specs.SharedRuns.{GraphEnds, GraphLeaves}

module _ {H : Type 0} where
  -- these are the trees where the graph run ends within the budget, after so many replacements; or the whole
  -- budget was used, and a redex is left
  pub record IsAnswer (system : System H) (root budget : ℕ) (trees after : List (Numbered H))
      (made : Option ℕ) : Type 0 where
    pub normal : (n : ℕ) → (made ≡ Some n) ↔ ((v : Tree H) × GraphEnds system root trees n after v
        × (n ≤ budget))
    pub spent : (made ≡ None) ↔ ((u : Tree H) × GraphLeaves system root trees budget after u)

  -- no right side makes more new cells than that
  abbrev pub MakeAtMost : System H → ℕ → Type 0
  MakeAtMost system largest =
      (rule : Rule H) → Contains system.rules rule → (p : Tree (PatternCell H)) → rule.right ≡ pattern p
      → new_count p ≤ largest
