-- The sides of the equation by which a node is replaced.
use Rattle.std.specs.Prelude.{◌≡◌, ℕ, ◌≤◌, Some, slice_get}
use Rattle.eq_base.specs.Tree.{Tree, size}
use Rattle.eq_base.specs.Pattern.{PatternCell, IsInstanceOf}
use Rattle.eq_base.specs.Meeting.{in_class_of}
use Rattle.eq_base.specs.RuleList.{RuleList}
use Rattle.eq_base.specs.declared.head.Head as heads
use Rattle.eq_base.specs.declared.rules.Right.TheVariants as rights
use Rattle.eq_base.specs.declared.rules.Equation.{Equation}
use Rattle.term_graph.specs.Graph.{Graph, term_at, IsFollowed}

-- the equation with this number has these sides, both patterns
pub record HasSides (rules : RuleList) (number : ℕ)
    (left right : Tree (PatternCell heads.Head)) : Type 0 where
  pub equation : Equation
  pub listed : slice_get rules.equations number ≡ Some equation
  pub left_is : equation.left ≡ left
  pub right_is : equation.right ≡ rights.Tree right

-- the node, which is no indirection, can be replaced by the equation: its term is an instance of the left
-- side,
-- and there is room for the right side, which is a pattern
pub record CanReplace (g : Graph) (rules : RuleList) (n number : ℕ) : Type 0 where
  pub left : Tree (PatternCell heads.Head)
  pub right : Tree (PatternCell heads.Head)
  pub sides : HasSides rules number left right
  pub followed : IsFollowed g n
  pub fits : IsInstanceOf (in_class_of rules.classes) left (term_at g n)
  pub room : size right ≤ g.spare
