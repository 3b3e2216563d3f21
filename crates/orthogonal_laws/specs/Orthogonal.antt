-- Systems of rules in which no two rules, and no rule and itself, overlap but trivially, and whose left sides
-- can be tested from left to right.
use Rattle.std.specs.Prelude.{◌≡◌, ◌≢◌, ◌⊎◌, ◌↔◌, ◌<◌, ℕ, List, [], Bool, IsTrue, Contains, Some, slice_get}
use Rattle.std.specs.List.{AllByRecursion}
use Rattle.eq_base.specs.Tree.{Tree, head_of, Position, IsBefore}
use Rattle.eq_base.specs.Pattern.{PatternCell, fixed, variable, restricted, Classes, variables, restrictions, IsLinear, Substitution, apply, Respects, IsInstanceOf}
use Rattle.eq_base.specs.Rewriting.{RightSide, pattern, operation, Rule, System, IsInstance}
use Rattle.eq_base.specs.Testing.{IsTestedAt, ClashAt, IsPattern}
use Rattle.eq_base.specs.declared.rules.Op.{Op}

-- a head stands in the cell
abbrev pub IsHead : {H : Type 0} → PatternCell H → Type 0
IsHead (fixed h) = Unit {0}
IsHead (variable x) = ⊥
IsHead (restricted x class) = ⊥

module _ {H : Type 0} where
  -- ---- left sides beside one another

  -- two patterns test the same positions
  abbrev pub TestSame : Tree (PatternCell H) → Tree (PatternCell H) → Type 0
  TestSame p r = (q : Position) → IsTestedAt p q ↔ IsTestedAt r q

  -- two patterns clash at a position, and before it, in preorder, they test the same positions
  pub record ClashFirst (in_class : Classes H) (p r : Tree (PatternCell H)) : Type 0 where
    pub at : Position
    pub clashes : ClashAt in_class p r at
    pub before : (q : Position) → IsBefore q at → IsTestedAt p q ↔ IsTestedAt r q

  -- ---- right sides beside one another

  -- wherever both left sides fit, the two rules lead to the same terms
  abbrev pub SameRight : System H → Rule H → Rule H → Type 0
  SameRight system a b =
      (t : Tree H) → IsInstanceOf system.in_class a.left t → IsInstanceOf system.in_class b.left t
      → (u : Tree H) → IsInstance system a t u ↔ IsInstance system b t u

  -- ---- what the laws ask of a system

  -- the variables of a right side are among these
  abbrev pub IsBound : List ℕ → RightSide H → Type 0
  IsBound xs (pattern p) = AllByRecursion (λ x. Contains xs x) (variables p)
  IsBound xs (operation op) = Unit {0}

  -- two substitutions give the restricted variables of a pattern the same constants
  abbrev pub AgreeOnRestricted : Tree (PatternCell H) → Substitution H → Substitution H → Type 0
  AgreeOnRestricted p σ τ = AllByRecursion (λ r. σ r.0 ≡ τ r.0) (restrictions p)

  -- what holds of every list of rules that a file gives: equality of heads is decided, left sides are
  -- patterns with a head at the root, and the value of an operation depends on restricted variables alone
  pub record IsWellFormedSystem (system : System H) : Type 0 where
    pub same : H → H → Bool
    pub decides : (g h : H) → IsTrue (same g h) ↔ (g ≡ h)
    pub patterns : (rule : Rule H) → Contains system.rules rule → IsPattern rule.left
    pub roots : (rule : Rule H) → Contains system.rules rule → IsHead (head_of rule.left)
    pub values : (rule : Rule H) → Contains system.rules rule → (op : Op) → rule.right ≡ operation op
        → (σ τ : Substitution H) → Respects system.in_class σ rule.left → AgreeOnRestricted rule.left σ τ
        → system.value_of op (apply σ rule.left) ≡ system.value_of op (apply τ rule.left)

  -- no variable occurs twice on a left side, or on a right side alone; two left sides clash first, or test
  -- the same positions and have the same right side; and each tested part below the root of a left side
  -- clashes first with each left side
  pub record IsOrthogonal (system : System H) : Type 0 where
    pub linear : (rule : Rule H) → Contains system.rules rule → IsLinear rule.left
    pub bound : (rule : Rule H) → Contains system.rules rule → IsBound (variables rule.left) rule.right
    pub roots : (i j : ℕ) (a b : Rule H) → i < j → slice_get system.rules i ≡ Some a
        → slice_get system.rules j ≡ Some b → ClashFirst system.in_class a.left b.left
        ⊎ (TestSame a.left b.left × SameRight system a b)
    pub parts : (a b : Rule H) → Contains system.rules a → Contains system.rules b → (q : Position) → q ≢ []
        → (tested : IsTestedAt a.left q) → ClashFirst system.in_class tested.part b.left

  -- what the laws ask of a system: it is well formed, and orthogonal
  pub record IsLawful (system : System H) : Type 0 where
    pub well_formed : IsWellFormedSystem system
    pub orthogonal : IsOrthogonal system
