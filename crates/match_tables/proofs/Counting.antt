-- Lists of distinct item sets: how many items they hold together, and what the members of a set tell of it.
use Rattle.std.proofs.Common.{◌≡◌, ◌≢◌, ◌⊎◌, zero, suc, ◌+◌, ◌≤◌, List, [], ◌∷◌, ◌++◌, refl, sym, ◌∙◌, ap, subst, arith, inl, inr, ⊎_elim}
use Rattle.std.specs.Prelude.{Contains}
use Rattle.std.proofs.lemmas.List.Elements.{Contains-append_left, Contains-append_right, Contains-append_cases}
use Rattle.eq_base.proofs.Lists.{all_contained}
use Rattle.match_laws.specs.Items.{Item, ItemSet, Precedes, IsOrdered}
use Rattle.match_laws.specs.Reachable.{total_items, AreDistinct}

-- ---- an element of a list

module _ {X : Type 0} where
  first-or-later : (x y : X) (xs : List X) → Contains (x ∷ xs) y → (x ≡ y) ⊎ Contains xs y
  first-or-later x y xs (zero, lt, is) = inl is
  first-or-later x y xs (suc i, lt, is) = inr (i, omega (arith, lt), is)

  is-first : (x : X) (xs : List X) → Contains (x ∷ xs) x
  is-first x xs = (0, omega arith, refl)

  is-later : (x y : X) (xs : List X) → Contains xs y → Contains (x ∷ xs) y
  is-later x y xs c = (suc c.0, omega (arith, c.1), c.2)

  -- what stands before an element, and what behind it
  record Parted (xs : List X) (x : X) : Type 0 where
    pub before : List X
    pub behind : List X
    pub is : xs ≡ before ++ x ∷ behind

  part : (xs : List X) (x : X) → Contains xs x → Parted xs x
  part [] x c = absurd (omega (arith, c.1))
  part (y ∷ xs) x (zero, lt, is) = record { before = []; behind = xs; is = ap (λ z. z ∷ xs) is }
  part (y ∷ xs) x (suc i, lt, is) =
      let p = part xs x (i, omega (arith, lt), is) in
      record { before = y ∷ p.before; behind = p.behind; is = ap (λ zs. y ∷ zs) p.is }

  -- another element stands before or behind it
  part-other : (xs : List X) (x y : X) (p : Parted xs x) → x ≢ y → Contains xs y → Contains (p.before ++ p.behind) y
  part-other xs x y p other c =
      ⊎_elim
      (λ front. Contains-append_left p.before p.behind y front)
      (λ rest. ⊎_elim
      (λ same. absurd (other same))
      (λ back. Contains-append_right p.before p.behind y back)
      (first-or-later x y p.behind rest))
      (Contains-append_cases p.before (x ∷ p.behind) y (subst (λ zs. Contains zs y) p.is c))

-- ---- how many items

total-append : (sets others : List ItemSet) → total_items (sets ++ others) ≡ total_items sets + total_items others
total-append [] others = omega arith
total-append (items ∷ sets) others = omega (arith, total-append sets others)

-- distinct sets of a list hold no more items than the list
pub no-more-items : (sets all : List ItemSet) → AreDistinct sets → ((items : ItemSet) → Contains sets items → Contains all items) → total_items sets ≤ total_items all
no-more-items [] all distinct inside = omega arith
no-more-items (items ∷ sets) all distinct inside =
    let p = part all items (inside items (is-first items sets)) in
    omega (
      arith,
      ap total_items p.is,
      total-append p.before (items ∷ p.behind),
      total-append p.before p.behind,
      no-more-items sets (p.before ++ p.behind) distinct.1 (λ other c.
          part-other all items other p (all_contained (λ o. items ≢ o) sets other distinct.0 c) (inside other (is-later items other sets c))),
    )

-- ---- the members of an ordered set

one-way : (a b : Item) → Precedes a b → Precedes b a → ⊥
one-way a b before behind = omega (arith, before, behind)

first-same : (a b : Item) (these those : ItemSet) → IsOrdered (a ∷ these) → IsOrdered (b ∷ those) → Contains (a ∷ these) b → Contains (b ∷ those) a → a ≡ b
first-same a b these those o p c d =
    ⊎_elim
    (λ same. same)
    (λ behind. ⊎_elim
    (λ same. sym same)
    (λ before. absurd (one-way a b (all_contained (λ x. Precedes a x) these b o.0 behind) (all_contained (λ x. Precedes b x) those a p.0 before)))
    (first-or-later b a those d))
    (first-or-later a b these c)

-- what an ordered set holds behind its first item is not that item
later-member : (a b : Item) (these those : ItemSet) → IsOrdered (a ∷ these) → a ≡ b → Contains (b ∷ those) (a) → (x : Item) → Contains these x → Contains (b ∷ those) x → Contains those x
later-member a b these those o same d x c e =
    ⊎_elim
    (λ first. absurd (let z : a ≡ x = same ∙ first in one-way a a (subst (Precedes a) (sym z) (all_contained (λ y. Precedes a y) these x o.0 c)) (subst (Precedes a) (sym z) (all_contained (λ y. Precedes a y) these x o.0 c))))
    (λ later. later)
    (first-or-later b x those e)

-- two ordered sets with the same members are the same
pub same-members : (these those : ItemSet) → IsOrdered these → IsOrdered those → ((x : Item) → Contains these x → Contains those x) → ((x : Item) → Contains those x → Contains these x) → these ≡ those
same-members [] [] o p f g = refl
same-members [] (b ∷ those) o p f g = absurd (let c = g b (is-first b those) in omega (arith, c.1))
same-members (a ∷ these) [] o p f g = absurd (let c = f a (is-first a these) in omega (arith, c.1))
same-members (a ∷ these) (b ∷ those) o p f g =
    let same : a ≡ b = first-same a b these those o p (g b (is-first b those)) (f a (is-first a these)) in
    let rest : these ≡ those = same-members these those o.1 p.1
    (λ x c. later-member a b these those o same (f a (is-first a these)) x c (f x (is-later a x these c)))
    (λ x c. later-member b a those these p (sym same) (g b (is-first b those)) x c (g x (is-later b x those c))) in
    cc
