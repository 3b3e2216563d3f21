-- Rewriting by the equations of a list.
use Rattle.std.specs.Prelude.{map, Option}
use Rattle.eq_base.specs.Tree.{Tree}
use Rattle.eq_base.specs.Rewriting.{RightSide, pattern, operation, Rule, System}
use Rattle.eq_base.specs.Meeting.{in_class_of}
use Rattle.eq_base.specs.RuleList.{RuleList}
use Rattle.eq_base.specs.declared.head.Head.{Head}
use Rattle.eq_base.specs.declared.rules.Op.{Op}
use Rattle.eq_base.specs.declared.rules.Right.{Right}
use Rattle.eq_base.specs.declared.rules.Right.TheVariants as rights
use Rattle.eq_base.specs.declared.rules.Equation.{Equation}

-- what a right side puts in the place of the left side
abbrev pub right_side : Right → RightSide Head
right_side (rights.Tree p) = pattern p
right_side (rights.Schema op) = operation op

-- an equation, used from left to right
abbrev pub rule_of : Equation → Rule Head
rule_of e = record { left = e.left; right = right_side e.right }

-- rewriting by these equations, with the symbol classes, their own classes and these values of operations
abbrev pub system_of : (Op → Tree Head → Option (Tree Head)) → RuleList → System Head
system_of value_of rules = record {
  rules = map rule_of rules.equations;
  in_class = in_class_of rules.classes;
  value_of = value_of;
}
