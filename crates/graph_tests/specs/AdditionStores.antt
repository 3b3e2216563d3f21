-- Two and one are added in a store: the equations, and the numbered trees after each replacement.
use Rattle.std.specs.Prelude.{ℕ, List, [], ◌∷◌}
use Rattle.eq_base.specs.Tree.{Tree, node, empty, grow}
use Rattle.eq_base.specs.Pattern.{PatternCell, fixed, variable}
use Rattle.eq_base.specs.RuleList.{RuleList}
use Rattle.eq_base.specs.declared.head.Head as heads
use Rattle.eq_base.specs.declared.head.Head.TheVariants.{Symbol}
use Rattle.eq_base.specs.declared.rules.Right.TheVariants as rights
use Rattle.eq_base.specs.declared.rules.Equation.{Equation}
use Rattle.graph_laws.specs.Numbered.{Numbered}

-- ---- symbols

abbrev pub zero_head : heads.Head
zero_head = Symbol 2

abbrev pub successor_head : heads.Head
successor_head = Symbol 3

abbrev pub plus_head : heads.Head
plus_head = Symbol 4

-- ---- equations

abbrev pub Pattern : Type 0
Pattern = Tree (PatternCell heads.Head)

abbrev pub first_variable : Pattern
first_variable = node (variable 0) empty

abbrev pub second_variable : Pattern
second_variable = node (variable 1) empty

abbrev pub zero_left : Pattern
zero_left = node (fixed plus_head) (grow (node (fixed zero_head) empty) (grow first_variable empty))

abbrev pub successor_left : Pattern
successor_left = node (fixed plus_head)
    (grow (node (fixed successor_head) (grow first_variable empty)) (grow second_variable empty))

abbrev pub successor_right : Pattern
successor_right = node (fixed successor_head)
    (grow (node (fixed plus_head) (grow first_variable (grow second_variable empty))) empty)

-- an item with these sides
abbrev pub equation_of : (left right : Pattern) → (item : ℕ) → Equation
equation_of left right item = record {
  left = left;
  right = rights.Tree right;
  origin = record { item = item; part = 0 };
}

-- plus(z, x) = x
abbrev pub zero_equation : Equation
zero_equation = equation_of zero_left first_variable 1

-- plus(s(x), y) = s(plus(x, y))
abbrev pub successor_equation : Equation
successor_equation = equation_of successor_left successor_right 2

abbrev pub addition_rules : RuleList
addition_rules = record { classes = []; equations = zero_equation ∷ successor_equation ∷ [] }

-- ---- terms

abbrev pub zero_term : Tree heads.Head
zero_term = node zero_head empty

abbrev pub successor_of : Tree heads.Head → Tree heads.Head
successor_of t = node successor_head (grow t empty)

-- plus(s(s(z)), s(z))
abbrev pub two_and_one : Tree heads.Head
two_and_one = node plus_head
    (grow (successor_of (successor_of zero_term)) (grow (successor_of zero_term) empty))

-- ---- numbered trees

abbrev pub numbered_successor : (number : ℕ) → Numbered heads.Head → Numbered heads.Head
numbered_successor number t = node (successor_head, number) (grow t empty)

abbrev pub numbered_plus : (number : ℕ) → Numbered heads.Head → Numbered heads.Head → Numbered heads.Head
numbered_plus number t u = node (plus_head, number) (grow t (grow u empty))

abbrev pub third : Numbered heads.Head
third = node (zero_head, 3) empty

abbrev pub second : Numbered heads.Head
second = numbered_successor 2 third

abbrev pub first : Numbered heads.Head
first = numbered_successor 1 second

abbrev pub fifth : Numbered heads.Head
fifth = node (zero_head, 5) empty

abbrev pub fourth : Numbered heads.Head
fourth = numbered_successor 4 fifth

-- a store whose nodes 1 to 5 are those of the term
abbrev pub with_first : Numbered heads.Head → List (Numbered heads.Head) → List (Numbered heads.Head)
with_first root more = root ∷ first ∷ second ∷ third ∷ fourth ∷ fifth ∷ more

abbrev pub start_trees : List (Numbered heads.Head)
start_trees = with_first (numbered_plus 0 first fourth) []

-- after node 0 is replaced
abbrev pub one_step : List (Numbered heads.Head)
one_step = with_first (numbered_successor 0 (numbered_plus 6 second fourth))
    (numbered_plus 6 second fourth ∷ [])

-- after node 6 is replaced too
abbrev pub two_steps : List (Numbered heads.Head)
two_steps = with_first (numbered_successor 0 (numbered_successor 6 (numbered_plus 7 third fourth)))
    (numbered_successor 6 (numbered_plus 7 third fourth) ∷ numbered_plus 7 third fourth ∷ [])

-- after node 7 is replaced too: it stands for what node 4 stands for
abbrev pub three_steps : List (Numbered heads.Head)
three_steps = with_first (numbered_successor 0 (numbered_successor 6 fourth))
    (numbered_successor 6 fourth ∷ fourth ∷ [])
