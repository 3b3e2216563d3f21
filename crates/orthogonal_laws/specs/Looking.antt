-- Words of private functions alone: what the left sides come to at a node of a term.
use Rattle.std.specs.Prelude.{◌≡◌, ℕ, ◌<◌, ◌≤◌, ◌-◌, Some, slice_get}
use Rattle.eq_base.specs.Tree.{Tree, nth_subtree}
use Rattle.eq_base.specs.Pattern.{IsInstanceOf}
use Rattle.eq_base.specs.Meeting.{in_class_of}
use Rattle.eq_base.specs.RuleList.{RuleList}
use Rattle.eq_base.specs.declared.head.Head.{Head}
use Rattle.eq_base.specs.declared.rules.Equation.{Equation}
use Rattle.orthogonal_laws.specs.Matching.{IsLastFailure}
use Rattle.orthogonal_laws.specs.declared.matching.Look.{Look}
use Rattle.orthogonal_laws.specs.declared.matching.Look.TheVariants.{Meets, Fails}

-- the equation with this number is the first whose left side the tree meets
pub record IsFirstMet (rules : RuleList) (number : ℕ) (t : Tree Head) : Type 0 where
  pub equation : Equation
  pub listed : slice_get rules.equations number ≡ Some equation
  pub met : IsInstanceOf (in_class_of rules.classes) equation.left t
  pub first : (k : ℕ) (e : Equation) → k < number → slice_get rules.equations k ≡ Some e
      → IsInstanceOf (in_class_of rules.classes) e.left t → ⊥

-- the first equation whose left side is met at the node, or else the last node at which one first fails
abbrev pub IsLook : RuleList → Tree Head → ℕ → Look → Type 0
IsLook rules t at (Meets equation) = IsFirstMet rules equation (nth_subtree t at)
IsLook rules t at (Fails last) = (at ≤ last) × IsLastFailure rules (nth_subtree t at) (last - at)
