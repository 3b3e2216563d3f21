-- Terms that are instances of two patterns.
use Rattle.std.specs.Prelude.{◌≡◌, ℕ, IsTrue, List, All}
use Rattle.std.specs.List.{AllByRecursion}
use Rattle.eq_base.specs.Tree.{Tree}
use Rattle.eq_base.specs.Pattern.{PatternCell, restrictions, IsInstanceOf}
use Rattle.eq_base.specs.Meeting.{in_class_of}
use Rattle.eq_base.specs.declared.head.Head.{Head}
use Rattle.eq_base.specs.RuleList.{RuleList}
use Rattle.regularity.specs.Arities.{HasArities}
use Rattle.regularity.specs.Occurrences.{Repeats}

-- each class of the pattern has a head
abbrev pub HaveHeads : List (List Head) → Tree (PatternCell Head) → Type 0
HaveHeads classes p = AllByRecursion (λ r. (h : Head) × IsTrue (in_class_of classes r.1 h)) (restrictions p)

-- each class of a left side has a head
abbrev pub LeftSidesHaveHeads : RuleList → Type 0
LeftSidesHaveHeads rules = All (λ e. HaveHeads rules.classes e.left) rules.equations

-- the patterns are compatible: neither repeats a variable, their classes have heads, and they agree on the number of arguments of each head, which is none for the heads of classes
pub record AreCompatible (classes : List (List Head)) (p r : Tree (PatternCell Head)) : Type 0 where
  pub one_linear : (at : ℕ) → Repeats p at → ⊥
  pub other_linear : (at : ℕ) → Repeats r at → ⊥
  pub one_classes : HaveHeads classes p
  pub other_classes : HaveHeads classes r
  pub arity : Head → ℕ
  pub one : HasArities arity p
  pub other : HasArities arity r
  pub constants : (class : ℕ) (h : Head) → IsTrue (in_class_of classes class h) → arity h ≡ 0

-- some term is an instance of both patterns
abbrev pub HaveSharedInstance : List (List Head) → Tree (PatternCell Head) → Tree (PatternCell Head) → Type 0
HaveSharedInstance classes p r =
    (t : Tree Head) × IsInstanceOf (in_class_of classes) p t × IsInstanceOf (in_class_of classes) r t
