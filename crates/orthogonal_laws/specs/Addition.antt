-- Addition of Peano numerals, an example of an orthogonal system.
use Rattle.std.specs.Prelude.{ℕ, [], ◌∷◌, false, None}
use Rattle.eq_base.specs.Tree.{Tree, node, empty, grow}
use Rattle.eq_base.specs.Pattern.{PatternCell, fixed, variable}
use Rattle.eq_base.specs.Rewriting.{pattern, Rule, System}

-- the variables of the two equations
abbrev pub first_variable : Tree (PatternCell ℕ)
first_variable = node (variable 0) empty

abbrev pub second_variable : Tree (PatternCell ℕ)
second_variable = node (variable 1) empty

-- plus(0, y) = y
abbrev pub zero_rule : Rule ℕ
zero_rule = record {
  left = node (fixed 2) (grow (node (fixed 0) empty) (grow first_variable empty));
  right = pattern first_variable;
}

-- plus(s(x), y) = s(plus(x, y))
abbrev pub successor_rule : Rule ℕ
successor_rule =
    record {
      left = node (fixed 2) (grow (node (fixed 1) (grow first_variable empty))
          (grow second_variable empty));
      right = pattern (node (fixed 1)
          (grow (node (fixed 2) (grow first_variable (grow second_variable empty))) empty));
    }

-- addition by these equations, where the heads 0, s and plus are the numbers 0, 1 and 2
abbrev pub addition : System ℕ
addition = record {
  rules = zero_rule ∷ successor_rule ∷ [];
  in_class = λ class h. false;
  value_of = λ op t. None;
}
