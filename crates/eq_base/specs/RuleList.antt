-- What contracts see of a `Rules`: the classes of a file, and its equations in their order.
use Rattle.std.specs.Prelude.{List}
use Rattle.eq_base.specs.declared.head.Head.{Head}
use Rattle.eq_base.specs.declared.rules.Equation.{Equation}

-- the members of each class, and the equations
pub record RuleList : Type 0 where
  pub classes : List (List Head)
  pub equations : List Equation
