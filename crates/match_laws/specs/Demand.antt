-- What the item set at a position tells of the positions above it.
use Rattle.std.specs.Prelude.{◌≡◌, ℕ, List, map, ◌++◌, Some, slice_get, Contains, IsTrue}
use Rattle.eq_base.specs.Tree.{Tree, Position, subtree_at, number, IsBefore}
use Rattle.eq_base.specs.Pattern.{PatternCell}
use Rattle.eq_base.specs.Testing.{IsTestedAt, MeetsAt}
use Rattle.eq_base.specs.Rewriting.{Rule, System}
use Rattle.eq_base.specs.declared.head.Head.{Head}
use Rattle.eq_base.specs.RuleList.{RuleList}
use Rattle.regularity.specs.Arities.{HasArities}
use Rattle.orthogonal_laws.specs.Strategy.{IsDemanded}

module _ {H : Type 0} (system : System H) where
  -- the left sides of the rules
  abbrev pub left_sides : List (Tree (PatternCell H))
  left_sides = map (λ r. r.left) system.rules

  -- the left sides have fixed numbers of arguments, and the heads of classes have none
  pub record HasFixedArities (arity : H → ℕ) : Type 0 where
    pub lefts : (rule : Rule H) → Contains system.rules rule → HasArities arity rule.left
    pub constants : (class : ℕ) (h : H) → IsTrue (system.in_class class h) → arity h ≡ 0

  -- the position is demanded from a position above it
  pub record IsDemandedFromAbove (t : Tree H) (q : Position) : Type 0 where
    pub above : Position
    pub below : Position
    pub position : q ≡ above ++ below
    pub subterm : Tree H
    pub stands : subtree_at t above ≡ Some subterm
    pub demanded : IsDemanded system subterm below

  -- the left side of rule e is completed at the position: this is the last one that it tests, its cell c, and
  -- the subterm above meets it at all positions that it tests
  pub record IsCompletedAt (t : Tree H) (q : Position) (e c : ℕ) : Type 0 where
    pub above : Position
    pub below : Position
    pub position : q ≡ above ++ below
    pub subterm : Tree H
    pub stands : subtree_at t above ≡ Some subterm
    pub rule : Rule H
    pub listed : slice_get system.rules e ≡ Some rule
    pub tested : IsTestedAt rule.left below
    pub cell : number rule.left below ≡ c
    pub last : (p : Position) → IsTestedAt rule.left p → IsBefore below p → ⊥
    pub met : (p : Position) → IsTestedAt rule.left p → MeetsAt system.in_class rule.left subterm p

-- the left sides of equations
abbrev pub left_sides_of : RuleList → List (Tree (PatternCell Head))
left_sides_of rules = map (λ e. e.left) rules.equations
