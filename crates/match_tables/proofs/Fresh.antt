-- Heads of each symbol class that a list does not have, and the steps that lead to reachable item sets.
use Rattle.std.proofs.Common.{◌≡◌, ℕ, zero, suc, ◌+◌, ◌<◌, ℤ, pos, negsuc, List, [], ◌∷◌, slice_get, Some, refl, ap, subst, arith}
use Rattle.std.specs.Prelude.{Contains}
use Rattle.eq_base.specs.RuleList.{RuleList}
use Rattle.eq_base.specs.declared.head.Head.{Head}
use Rattle.eq_base.specs.declared.head.Head.TheVariants.{Symbol, Numeral, Atom, Text}
use Rattle.regularity.specs.WellFormed.{AreWellFormed}
use Rattle.match_laws.specs.Items.{ItemSet}
use Rattle.match_laws.specs.Reachable.{by_read, by_skip}
use Rattle.match_tables.specs.Searching.{KeepsReachable}
use Rattle.match_tables.specs.Rows.{HaveNamed}
use Rattle.match_tables.specs.declared.step.Step.TheVariants.{Read, Other, Skip}
use Rattle.match_tables.proofs.Named.{IsLiteralOf, same-leads, other-same}
use Rattle.match_tables.proofs.Rights.{leads-read}
use Rattle.match_tables.proofs.Extending.{leads-skip}

abbrev size_of : ℤ → ℕ
size_of (pos n) = n
size_of (negsuc n) = 0

abbrev weight : Head → ℕ
weight (Symbol s) = 0
weight (Numeral n) = size_of n
weight (Atom n) = n
weight (Text n) = n

abbrev bound : List Head → ℕ
bound [] = 0
bound (h ∷ hs) = suc (weight h + bound hs)

below-bound : (hs : List Head) (h : Head) → Contains hs h → weight h < bound hs
below-bound [] h c = absurd (omega (arith, c.1))
below-bound (g ∷ hs) h (zero, lt, is) = let same : weight g ≡ weight h = ap weight is in omega (arith, same)
below-bound (g ∷ hs) h (suc k, lt, is) = let less = below-bound hs h (k, omega (arith, lt), is) in omega (arith, less)

-- a literal of the class that is not in the list
pub record Fresh (class : ℕ) (heads : List Head) : Type 0 where
  pub head : Head
  pub literal : IsLiteralOf class head
  pub none : ¬ Contains heads head

pub fresh-numeral : (heads : List Head) → Fresh 0 heads
fresh-numeral heads = record { head = Numeral (pos (bound heads)); literal = refl; none = λ c. let lt : bound heads < bound heads = below-bound heads _ c in omega (arith, lt) }

pub fresh-atom : (heads : List Head) → Fresh 1 heads
fresh-atom heads = record { head = Atom (bound heads); literal = refl; none = λ c. let lt : bound heads < bound heads = below-bound heads _ c in omega (arith, lt) }

pub fresh-string : (heads : List Head) → Fresh 3 heads
fresh-string heads = record { head = Text (bound heads); literal = refl; none = λ c. let lt : bound heads < bound heads = below-bound heads _ c in omega (arith, lt) }

-- ---- steps keep item sets reachable

module _ (rules : RuleList) (sets : List ItemSet) (state : ℕ) where
  pub keeps-read : (h : Head) → KeepsReachable rules sets state (Read h)
  keeps-read h items next at r l = by_read h r (leads-read rules sets items h next l)

  pub keeps-skip : KeepsReachable rules sets state Skip
  keeps-skip items next at r l = by_skip r (leads-skip rules items next l)

  pub keeps-other : AreWellFormed rules → (heads : List Head) → ((items : ItemSet) → slice_get sets state ≡ Some items → HaveNamed rules items heads) → (class : ℕ) → Fresh class heads → KeepsReachable rules sets state (Other class)
  keeps-other w heads named class f items next at r l =
      by_read f.head r (leads-read rules sets items f.head next (same-leads rules items (Other class) (Read f.head) (other-same rules w items heads (named items at) class f.head f.literal f.none) next l))

-- the item set at a number is one
pub same-set : (sets : List ItemSet) (state : ℕ) (one other : ItemSet) → slice_get sets state ≡ Some one → slice_get sets state ≡ Some other → one ≡ other
same-set sets state one other a b = cc

pub named-at : (rules : RuleList) (sets : List ItemSet) (state : ℕ) (own : ItemSet) (heads : List Head) → slice_get sets state ≡ Some own → HaveNamed rules own heads → (items : ItemSet) → slice_get sets state ≡ Some items → HaveNamed rules items heads
named-at rules sets state own heads at named items here = subst (λ xs. HaveNamed rules xs heads) (same-set sets state own items at here) named
