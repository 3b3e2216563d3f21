-- A break that equations have names two of them, and a place of one.
use Rattle.std.proofs.Common.{Bool, true, false, ap, ◌∙◌, ◌≡◌, ℕ, ◌<◌, List, inl, inr, refl, sym, subst, Some}
use Rattle.std.specs.Prelude.{slice_get, ◌==◌, if◌then◌else◌}
use Rattle.std.proofs.lemmas.Bool.{eqb-true}
use Rattle.std.proofs.lemmas.Option.{slice_get_within, get_or_from_slice_get}
use Rattle.eq_base.specs.Tree.{Tree, size}
use Rattle.eq_base.proofs.Numbers.{has_node}
use Rattle.eq_base.specs.Pattern.{PatternCell}
use Rattle.eq_base.specs.Rules.{rule_of, right_side}
use Rattle.eq_base.specs.RuleList.{RuleList}
use Rattle.eq_base.specs.declared.head.Head.{Head}
use Rattle.eq_base.specs.declared.rules.Right.{Right}
use Rattle.eq_base.specs.declared.rules.Right.TheVariants as rights
use Rattle.eq_base.specs.declared.rules.Equation.{Equation}
use Rattle.regularity.specs.declared.breaks.Break.{Break}
use Rattle.regularity.specs.Listing.{Lists}
use Rattle.regularity.specs.Restrictions.{HasUnbound}
use Rattle.sequentiality.specs.Violations.{IsViolation}
use Rattle.ei_program.specs.Restrictions.{right_of, broken_side, IsInList}

-- the place of a variable that is not on the left side is one of the right side
right_place : (left : Tree (PatternCell Head)) (right : Right) (at : ℕ) → HasUnbound left (right_side right) at → at < size (right_of left (right_side right))
right_place left (rights.Tree p) at unbound = unbound.here.there
right_place left (rights.Schema op) at unbound = absurd unbound

module _ (rules : RuleList) (b : Break) where
  -- the side of a break of RE2 is the right side, and that of the others the left side
  left_there : (n : ℕ) → b.restriction ≡ n → (n ≡ 2 → ⊥) → (e : Equation) → b.place < size e.left → b.place < size (broken_side b.restriction (rule_of e))
  left_there n is other e lt = at_left (n == 2) refl
    where
      at_left : (two : Bool) → (n == 2) ≡ two → b.place < size (broken_side b.restriction (rule_of e))
      at_left true same = absurd (other (eqb-true n 2 same))
      at_left false same = let side : broken_side b.restriction (rule_of e) ≡ e.left = ap (λ r. broken_side r (rule_of e)) is ∙ ap (λ t. if t then right_of e.left (right_side e.right) else e.left) same in subst (λ p. b.place < size p) (sym side) lt

  right_there : b.restriction ≡ 2 → (e : Equation) → b.place < size (right_of e.left (right_side e.right)) → b.place < size (broken_side b.restriction (rule_of e))
  right_there is e lt = subst (λ p. b.place < size p) (sym (ap (λ r. broken_side r (rule_of e)) is)) lt

  in_list : IsViolation rules b → IsInList rules.equations b
  in_list (inl (inl (inl r))) = record { one = r.equation; other = r.equation; one_listed = r.listed; other_listed = subst (λ k. slice_get rules.equations k ≡ Some r.equation) (sym r.second) r.listed; there = left_there 1 r.restriction (λ e. cc) r.equation r.repeats.here.there }
  in_list (inl (inl (inr u))) = record { one = u.equation; other = u.equation; one_listed = u.listed; other_listed = subst (λ k. slice_get rules.equations k ≡ Some u.equation) (sym u.second) u.listed; there = right_there u.restriction u.equation (right_place u.equation.left u.equation.right b.place u.unbound) }
  in_list (inl (inr (inl a))) = record { one = a.one; other = a.other; one_listed = a.one_listed.listed; other_listed = a.other_listed.listed; there = left_there 3 a.restriction (λ e. cc) a.one (subst (λ k. k < size a.one.left) (sym a.root) (has_node a.one.left)) }
  in_list (inl (inr (inr o))) = record { one = o.one; other = o.other; one_listed = o.one_listed.listed; other_listed = o.other_listed.listed; there = left_there 4 o.restriction (λ e. cc) o.one o.tested.there }
  in_list (inr s) = record { one = s.one; other = s.other; one_listed = s.one_listed.listed; other_listed = s.other_listed.listed; there = left_there 5 s.restriction (λ e. cc) s.one s.tested.there }

-- a break of the list
pub break_in_list : (rules : RuleList) (bs : List Break) (b : Break) → Lists (IsViolation rules) bs → (i : ℕ) → slice_get bs i ≡ Some b → IsInList rules.equations b
break_in_list rules bs b lists i found = in_list rules b (lists.only b (i, slice_get_within bs i b found, get_or_from_slice_get bs i b b found))
