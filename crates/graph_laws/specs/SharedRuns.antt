-- Runs of shared steps, and how the graph run ends with a budget.
use Rattle.std.specs.Prelude.{◌≡◌, ℕ, zero, suc, ◌≤◌, List, Some, Contains, slice_get}
use Rattle.eq_base.specs.Tree.{Tree, node, empty}
use Rattle.eq_base.specs.Rewriting.{operation, Rule, System, IsDerivable, IsNormal}
use Rattle.eq_base.specs.declared.rules.Op.{Op}
use Rattle.orthogonal_laws.specs.Strategy.{HasLength}
use Rattle.orthogonal_laws.specs.Development.{SharedStep}
use Rattle.graph_laws.specs.Numbered.{Numbered, plain}
use Rattle.graph_laws.specs.Runs.{GraphRun}

module _ {H : Type 0} where
  -- n shared steps from t, one after another, lead to u
  pub data SharedRun (system : System H) (t : Tree H) : ℕ → Tree H → Type 0 where
    start : SharedRun system t zero t
    then : {n : ℕ} {u v : Tree H} → SharedRun system t n u → SharedStep system u v
        → SharedRun system t (suc n) v

  -- the node stands for the term
  abbrev pub StandsFor : List (Numbered H) → ℕ → Tree H → Type 0
  StandsFor trees n t = (tree : Numbered H) × (slice_get trees n ≡ Some tree) × (plain tree ≡ t)

  -- the graph run from these trees makes n replacements and ends there: the root stands for the normal form v
  pub record GraphEnds (system : System H) (root : ℕ) (trees : List (Numbered H)) (n : ℕ)
      (after : List (Numbered H)) (v : Tree H) : Type 0 where
    pub run : GraphRun system root trees n after
    pub stands : StandsFor after root v
    pub normal : IsNormal system v

  -- after so many replacements the root stands for a term that is not normal
  pub record GraphLeaves (system : System H) (root : ℕ) (trees : List (Numbered H)) (n : ℕ)
      (after : List (Numbered H)) (u : Tree H) : Type 0 where
    pub run : GraphRun system root trees n after
    pub stands : StandsFor after root u
    pub redex_left : IsNormal system u → ⊥

  -- v is a normal form of t, and the only one; and the plain run from t ends in it, after n steps at least
  pub record IsOnlyNormalForm (system : System H) (t : Tree H) (n : ℕ) (v : Tree H) : Type 0 where
    pub derivable : IsDerivable system t v
    pub normal : IsNormal system v
    pub only : (u : Tree H) → IsDerivable system t u → IsNormal system u → u ≡ v
    pub length : ℕ
    pub has_length : HasLength system t length v
    pub long : n ≤ length

  -- the value of an operation is a constant
  abbrev pub HaveConstantValues : System H → Type 0
  HaveConstantValues system =
      (rule : Rule H) → Contains system.rules rule → (op : Op) → rule.right ≡ operation op → (t u : Tree H)
      → system.value_of op t ≡ Some u → (h : H) × (u ≡ node h empty)
