-- Left sides as tests on heads: what the laws' proofs look at in place of patterns.
use Rattle.std.specs.Prelude.{◌≡◌, ◌⊎◌, ℕ, zero, suc, ◌+◌, List, Bool, IsTrue, Option, Some, Contains}
use Rattle.eq_base.specs.Tree.{Tree, Forest, node, empty, grow, count}
use Rattle.eq_base.specs.Pattern.{PatternCell, apply}

-- a head with its number of arguments
abbrev pub Label : Type 0 → Type 0
Label H = H × ℕ

-- a list of argument patterns: its end, a plain variable, or a tested position with what stands below it
pub data Patterns (H : Type 0) : Type 0 where
  Last : Patterns H
  Open : (rest : Patterns H) → Patterns H
  Test : (test : Label H → Bool) → (args : Patterns H) → (rest : Patterns H) → Patterns H

-- a rule by the test at its root, its arguments, and its right side, a pattern over the plain variables by their order; the right side may depend on the tested heads
pub record Compiled (H : Type 0) : Type 0 where
  pub root : Label H → Bool
  pub args : Patterns H
  pub right : Tree H → Option (Tree (PatternCell H))

-- the i-th tree of a list, or the bare head h where there is none
abbrev pub nth : {H : Type 0} → H → ℕ → Forest H → Tree H
nth h i empty = node h empty
nth h zero (grow t rest) = t
nth h (suc i) (grow t rest) = nth h i rest

-- the value of a right side
abbrev pub fill : {H : Type 0} → H → Tree (PatternCell H) → Forest H → Tree H
fill h r es = apply (λ i. nth h i es) r

-- the trees meet the patterns at all their tested positions
abbrev pub Meets : {H : Type 0} → Patterns H → Forest H → Type 0
Meets Last empty = Unit {0}
Meets Last (grow t more) = ⊥
Meets (Open ps) empty = ⊥
Meets (Open ps) (grow t more) = Meets ps more
Meets (Test test ps qs) empty = ⊥
Meets (Test test ps qs) (grow (node h us) more) = IsTrue (test (h, count us)) × Meets ps us × Meets qs more

-- the trees with the bare head f in place of the parts at plain variables
abbrev pub skeleton : {H : Type 0} → H → Patterns H → Forest H → Forest H
skeleton f (Open ps) (grow t more) = grow (node f empty) (skeleton f ps more)
skeleton f (Test test ps qs) (grow (node h us) more) = grow (node h (skeleton f ps us)) (skeleton f qs more)
skeleton f _ _ = empty

-- the parts at the plain variables, in front of others
abbrev pub open_parts : {H K : Type 0} → Patterns H → Forest K → Forest K → Forest K
open_parts (Open ps) (grow t more) others = grow t (open_parts ps more others)
open_parts (Test test ps qs) (grow (node h us) more) others = open_parts ps us (open_parts qs more others)
open_parts _ _ others = others

-- how many plain variables
abbrev pub opens : {H : Type 0} → Patterns H → ℕ
opens Last = 0
opens (Open ps) = suc (opens ps)
opens (Test test ps qs) = opens ps + opens qs

-- the tree h us fits the rule, with right side r, and parts es at its plain variables
pub record Fits {H : Type 0} (rule : Compiled H) (h : H) (us : Forest H) (r : Tree (PatternCell H)) (es : Forest H) : Type 0 where
  pub root : IsTrue (rule.root (h, count us))
  pub args : Meets rule.args us
  pub right : rule.right (node h (skeleton h rule.args us)) ≡ Some r
  pub parts : es ≡ open_parts rule.args us empty

-- some rule of the list fits
pub record Redex {H : Type 0} (rules : List (Compiled H)) (h : H) (us : Forest H) (r : Tree (PatternCell H)) (es : Forest H) : Type 0 where
  pub rule : Compiled H
  pub among : Contains rules rule
  pub fits : Fits rule h us r es

-- the tree h us has no root step
abbrev pub NoRedex : {H : Type 0} → List (Compiled H) → H → Forest H → Type 0
NoRedex {H} rules h us = (r : Tree (PatternCell H)) (es : Forest H) → Redex rules h us r es → ⊥

-- the patterns ps stand below a tested position with this test
pub data IsPart {H : Type 0} (test : Label H → Bool) (ps : Patterns H) : Patterns H → Type 0 where
  part_here : {rest : Patterns H} → IsPart test ps (Test test ps rest)
  part_below : {t : Label H → Bool} {qs rest : Patterns H} → IsPart test ps qs → IsPart test ps (Test t qs rest)
  part_after : {t : Label H → Bool} {qs rest : Patterns H} → IsPart test ps rest → IsPart test ps (Test t qs rest)
  part_skip : {rest : Patterns H} → IsPart test ps rest → IsPart test ps (Open rest)

-- the whole left side
abbrev pub left : {H : Type 0} → Compiled H → Patterns H
left rule = Test rule.root rule.args Last

-- both test the same positions
pub data Alike {H : Type 0} : Patterns H → Patterns H → Type 0 where
  alike_last : Alike Last Last
  alike_open : {ps qs : Patterns H} → Alike ps qs → Alike (Open ps) (Open qs)
  alike_test : {s t : Label H → Bool} {ps ps' qs qs' : Patterns H} → Alike ps qs → Alike ps' qs' → Alike (Test s ps ps') (Test t qs qs')

-- in preorder, there is a position whose tests no head with its number of arguments passes, and before it no position is tested in only one of the two
pub data Clash {H : Type 0} : Patterns H → Patterns H → Type 0 where
  clash_here : {s t : Label H → Bool} {ps ps' qs qs' : Patterns H} → ((h : Label H) → IsTrue (s h) → IsTrue (t h) → ⊥) → Clash (Test s ps ps') (Test t qs qs')
  clash_below : {s t : Label H → Bool} {ps ps' qs qs' : Patterns H} → Clash ps qs → Clash (Test s ps ps') (Test t qs qs')
  clash_after : {s t : Label H → Bool} {ps ps' qs qs' : Patterns H} → Alike ps qs → Clash ps' qs' → Clash (Test s ps ps') (Test t qs qs')
  clash_skip : {ps qs : Patterns H} → Clash ps qs → Clash (Open ps) (Open qs)

abbrev pub length_of : {H : Type 0} → Patterns H → ℕ
length_of Last = 0
length_of (Open ps) = suc (length_of ps)
length_of (Test test ps qs) = suc (length_of qs)

-- each test wants as many arguments as there are patterns below it
abbrev pub Counted : {H : Type 0} → Patterns H → Type 0
Counted Last = Unit {0}
Counted (Open ps) = Counted ps
Counted {H} (Test test ps qs) = ((h : Label H) → IsTrue (test h) → h.1 ≡ length_of ps) × Counted ps × Counted qs

-- the right sides are the same wherever both left sides fit
abbrev pub SameRight : {H : Type 0} → Compiled H → Compiled H → Type 0
SameRight {H} a b = Alike (left a) (left b) × ((h : H) (us : Forest H) → IsTrue (a.root (h, count us)) → IsTrue (b.root (h, count us)) → Meets a.args us → Meets b.args us → a.right (node h us) ≡ b.right (node h us))

-- any two left sides clash, or are alike and have the same right side; and each part of one below its root, at a tested position, clashes with each left side
pub record Regular {H : Type 0} (rules : List (Compiled H)) : Type 0 where
  pub counted : (a : Compiled H) → Contains rules a → Counted (left a)
  pub roots : (a b : Compiled H) → Contains rules a → Contains rules b → Clash (left a) (left b) ⊎ SameRight a b
  pub parts : (a b : Compiled H) → Contains rules a → Contains rules b → (test : Label H → Bool) (ps : Patterns H) → IsPart test ps a.args → Clash (Test test ps Last) (left b)
