-- The left sides of a list of rules as one decision tree, read against the arguments of a head from left to right.
use Rattle.std.proofs.Common.{◌≡◌, List, [], ◌∷◌, cond, Option, Some, None}
use Rattle.eq_base.specs.Tree.{Tree, Forest, node, empty, grow, count}
use Rattle.eq_base.specs.Pattern.{PatternCell}
use Rattle.orthogonal_laws.proofs.LeftSides.{Label, Patterns, Last, Open, Test, Compiled, Redex}

-- what the left sides that still fit do next: read a head, leave a part open, come to the end of a list of arguments; one fits; none does
pub data Matcher (H : Type 0) : Type 0 where
  Read : (Label H → Matcher H) → Matcher H
  Skip : Matcher H → Matcher H
  End : Matcher H → Matcher H
  Done : Tree (PatternCell H) → Matcher H
  Stop : Matcher H

-- the matcher after a list of trees
abbrev pub run : {H : Type 0} → Matcher H → Forest H → Matcher H
run (Read f) (grow (node h args) rest) = run (run (f (h, count args)) args) rest
run (Skip m) (grow t rest) = run m rest
run (End m) empty = m
run _ _ = Stop

-- the parts that the matcher leaves open in a list of trees, in front of others
abbrev pub parts : {H : Type 0} → Matcher H → Forest H → Forest H → Forest H
parts m empty more = more
parts (Read f) (grow (node h args) rest) more = parts (f (h, count args)) args (parts (run (f (h, count args)) args) rest more)
parts (Skip m) (grow t rest) more = grow t (parts m rest more)
parts _ (grow t rest) more = more

-- reads patterns, then what follows; f is the bare head that stands for what is left open
abbrev pub path : {H : Type 0} → H → Patterns H → (Forest H → Matcher H) → Matcher H
path f Last k = End (k empty)
path f (Open ps) k = Skip (path f ps (λ ts. k (grow (node f empty) ts)))
path f (Test test ps qs) k = Read (λ h. cond (test h) (path f ps (λ us. path f qs (λ ts. k (grow (node h.0 us) ts)))) Stop)

-- a right side, or none
abbrev pub done : {H : Type 0} → Option (Tree (PatternCell H)) → Matcher H
done None = Stop
done (Some r) = Done r

-- both at once
abbrev pub join : {H : Type 0} → Matcher H → Matcher H → Matcher H
join Stop b = b
join (Done r) b = Done r
join (Read f) (Read g) = Read (λ h. join (f h) (g h))
join (Read f) _ = Read f
join (Skip a) (Skip b) = Skip (join a b)
join (Skip a) _ = Skip a
join (End a) (End b) = End (join a b)
join (End a) _ = End a

-- the arguments of a left side with head h
abbrev pub rule_tree : {H : Type 0} → Compiled H → Label H → Matcher H
rule_tree rule h = cond (rule.root h) (path h.0 rule.args (λ us. done (rule.right (node h.0 us)))) Stop

abbrev pub tree : {H : Type 0} → List (Compiled H) → Label H → Matcher H
tree [] h = Stop
tree (rule ∷ rules) h = join (rule_tree rule h) (tree rules h)

-- some left side still fits
abbrev pub Alive : {H : Type 0} → Matcher H → Type 0
Alive Stop = ⊥
Alive _ = Unit {0}

-- the decision tree finds the redexes of the rules, and their parts
pub record Compiles {H : Type 0} (rules : List (Compiled H)) (start : Label H → Matcher H) : Type 0 where
  pub finds : (h : H) (us : Forest H) (r : Tree (PatternCell H)) (es : Forest H) → Redex rules h us r es → run (start (h, count us)) us ≡ Done r
  pub opens : (h : H) (us : Forest H) (r : Tree (PatternCell H)) (es : Forest H) → Redex rules h us r es → es ≡ parts (start (h, count us)) us empty
  pub redex : (h : H) (us : Forest H) (r : Tree (PatternCell H)) → run (start (h, count us)) us ≡ Done r → Redex rules h us r (parts (start (h, count us)) us empty)
