-- Heads that are put into a set of them.
use Rattle.std.proofs.Common.{◌≡◌, ℕ, ◌+◌, ◌<◌, ◌≤◌, Bool, true, false, List, [], ◌∷◌, ◌++◌, if◌then◌else◌, length, slice_get, Some, refl, sym, ◌∙◌, ap, subst, arith, ⊎_elim}
use Rattle.std.specs.Prelude.{◌↔◌, Contains, IsTrue}
use Rattle.std.specs.List.{list_any}
use Rattle.std.proofs.lemmas.Bool.{cases_lt}
use Rattle.std.proofs.lemmas.Bool.Decides.{nat_tests}
use Rattle.std.proofs.lemmas.Option.{slice_get_within}
use Rattle.std.proofs.lemmas.List.Elements.{Contains-append_left, Contains-append_right}
use Rattle.eq_base.specs.Pattern.{restricted}
use Rattle.eq_base.specs.Meeting.{in_symbol_class, same_head, in_class_of}
use Rattle.eq_base.specs.ClassLists.{members_of}
use Rattle.eq_base.specs.declared.head.Head.{Head}
use Rattle.eq_base.specs.declared.head.Head.TheVariants.{Symbol, Numeral, Atom, Text}
use Rattle.eq_base.proofs.ClassMembers.{any_same, same_head_decides, symbol_class, listed_class, past_classes}
use Rattle.indexmap.specs.IndexSet.{insert_key}
use Rattle.match_tables.specs.Rows.{HasNamed, HasAll}
use Rattle.match_tables.proofs.Places.{place_from_contains}

module _ (same : Head → Head → Bool) (decides : (g h : Head) → IsTrue (same g h) ↔ (g ≡ h)) (heads : List Head) (h : Head) where
  pub insert-has : Contains (insert_key same heads h) h
  insert-has = by (list_any (same h) heads) refl
    where
      by : (b : Bool) → list_any (same h) heads ≡ b → Contains (if b then heads else heads ++ h ∷ []) h
      by true e = (any_same same decides heads h).0 e
      by false e = Contains-append_right heads (h ∷ []) h (0, omega arith, refl)

  pub insert-keeps : HasAll heads (insert_key same heads h)
  insert-keeps g c = by (list_any (same h) heads)
    where
      by : (b : Bool) → Contains (if b then heads else heads ++ h ∷ []) g
      by true = c
      by false = Contains-append_left heads (h ∷ []) g c

pub keeps-itself : (heads : List Head) → HasAll heads heads
keeps-itself heads h c = c

pub keeps-both : (old between new : List Head) → HasAll old between → HasAll between new → HasAll old new
keeps-both old between new f g h c = g h (f h c)

-- the first n of these stand in the list
abbrev pub HasFirst : ℕ → List Head → List Head → Type 0
HasFirst n these heads = (k : ℕ) (h : Head) → k < n → slice_get these k ≡ Some h → Contains heads h

pub first-more : (n : ℕ) (these old new : List Head) (h : Head) → HasFirst n these old → HasAll old new → slice_get these n ≡ Some h → Contains new h → HasFirst (n + 1) these new
first-more n these old new h f keeps at c k g lt here =
    ⊎_elim
    (λ less. keeps g (f k g less here))
    (λ past. let place : k ≡ n = omega arith in let same : g ≡ h = let x = ap (slice_get these) place in cc in subst (Contains new) (sym same) c)
    (cases_lt k n)

pub first-all : (n : ℕ) (these heads : List Head) → length these ≤ n → HasFirst n these heads → HasAll these heads
first-all n these heads past f h c = let at = place_from_contains these h c in f at.0 h (let lt = slice_get_within these at.0 h at.1 in omega (arith, lt)) at.1

-- ---- what a cell of a class names

module _ (classes : List (List Head)) (x : ℕ) (heads : List Head) where
  -- the members of a class of the file
  pub members-named : (class : ℕ) → 4 ≤ class → HasAll (members_of classes class) heads → HasNamed classes (restricted x class) heads
  members-named class le all h n = all h ((listed_class same_head same_head_decides in_symbol_class classes class h le).0 n.1)

  -- none past the last class
  pub past-named : (class : ℕ) → 4 + length classes ≤ class → HasNamed classes (restricted x class) heads
  past-named class past = members-named class (omega arith) (λ h c. absurd (let none = past_classes classes class past in let y = ap length none in omega (arith, c.1, y)))

  -- of the symbol classes only the truth values are finite
  pub none-named : (class : ℕ) → class < 4 → (class ≡ 2 → ⊥) → HasNamed classes (restricted x class) heads
  none-named class lt other h n = absurd (⊎_elim other (λ le. omega (arith, lt, le)) n.0)

  pub truth-named : (class : ℕ) → class ≡ 2 → Contains heads (Symbol 0) → Contains heads (Symbol 1) → HasNamed classes (restricted x class) heads
  truth-named class is zero-in one-in h n = by h (sym (symbol_class same_head same_head_decides in_symbol_class classes 2 h (omega arith)) ∙ subst (λ k. in_class_of classes k h ≡ true) is n.1)
    where
      small : (s : ℕ) → s < 2 → Contains heads (Symbol s)
      small s lt = ⊎_elim (λ less. subst (λ k. Contains heads (Symbol k)) (omega arith) zero-in) (λ past. subst (λ k. Contains heads (Symbol k)) (omega arith) one-in) (cases_lt s 1)

      by : (h : Head) → in_symbol_class 2 h ≡ true → Contains heads h
      by (Symbol s) e = small s (grind (arith, nat_tests))
      by (Numeral m) e = absurd (cc)
      by (Atom m) e = absurd (cc)
      by (Text m) e = absurd (cc)
