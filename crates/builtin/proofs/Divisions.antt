-- The quotient and the remainder of Euclid are one, and are those of the definitions.
use Rattle.std.proofs.Common.{◌≡◌, ℕ, zero, suc, ◌+◌, ◌*◌, ◌/◌, ◌<◌, ◌≤◌, refl, sym, ap, subst, ◌∙◌, arith, ⊎_elim}
use Rattle.std.specs.Prelude.{◌≢◌, ℤ, pos, negsuc, neg_ℤ, ◌+ℤ◌, ◌*ℤ◌, ◌≤ℤ◌, ◌<ℤ◌, unsigned_abs, Bool, true, false, if◌then◌else◌, Some, None}
use Rattle.std.specs.Int.{int_div_euclid, int_rem_euclid}
use Rattle.std.proofs.Math.Nat.{div-add-mod, mod-lt, mul-le-mul_left}
use Rattle.std.proofs.lemmas.Int.{ints}
use Rattle.std.proofs.lemmas.Bool.{cases_lt}
use Rattle.std.proofs.lemmas.Bool.Decides.{Decides-int_eq}
use Rattle.std.specs.Ordering.{int_eq}
use Rattle.eq_base.specs.ReadHead.{numeral}
use Rattle.eq_base.specs.Operations.{of_numerals}
use Rattle.eq_base.specs.declared.rules.Op.TheVariants.{DivInt, ModInt}
use Rattle.builtin.specs.Division.{IsDivision}
use Rattle.builtin.proofs.Limits.{not_zero}

negative_times : (b x : ℕ) → negsuc b *ℤ neg_ℤ (pos x) ≡ pos (suc b * x)
negative_times b zero = omega (arith, ints)
negative_times b (suc x) = refl

-- ---- there is a division by each number but 0

pub divides_so : (a b : ℤ) → b ≢ pos 0 → IsDivision a b (int_div_euclid a b) (int_rem_euclid a b)
divides_so a (pos zero) some = absurd (some refl)
divides_so (pos a) (pos (suc b)) some = record {
  whole = omega (arith, ints, div-add-mod a (suc b));
  least = omega (arith, ints);
  below = omega (arith, ints, mod-lt a {m = suc b} (omega arith));
}
divides_so (pos a) (negsuc b) some = record {
  whole = rw (negative_times b (a / suc b)) (omega (arith, ints, div-add-mod a (suc b)));
  least = omega (arith, ints);
  below = omega (arith, ints, mod-lt a {m = suc b} (omega arith));
}
divides_so (negsuc a) (pos (suc b)) some = record {
  whole = omega (arith, ints, div-add-mod a (suc b), mod-lt a {m = suc b} (omega arith));
  least = omega (arith, ints);
  below = omega (arith, ints);
}
divides_so (negsuc a) (negsuc b) some = record {
  whole = omega (arith, ints, div-add-mod a (suc b), mod-lt a {m = suc b} (omega arith));
  least = omega (arith, ints);
  below = omega (arith, ints);
}

-- ---- and there is one only

same_natural : (n x y r r' : ℕ) → r < n → r' < n → n * x + r ≡ n * y + r' → (x ≡ y) × (r ≡ r')
same_natural n x y r r' l l' e =
    ⊎_elim
    (λ below. absurd (omega (arith, mul-le-mul_left n below)))
    (λ past.
    ⊎_elim
    (λ below. absurd (omega (arith, mul-le-mul_left n below)))
    (λ past'. let same : x ≡ y = omega arith in (same, let times = ap (λ z. n * z) same in omega arith))
    (cases_lt y x))
    (cases_lt x y)

at_least : (n y : ℕ) → n ≤ n * suc y
at_least n y = let some : 1 ≤ suc y = omega arith in omega (arith, mul-le-mul_left n some)

same_by : (n : ℕ) (p q : ℤ) (r s : ℕ) → r < n → s < n → pos n *ℤ p +ℤ pos r ≡ pos n *ℤ q +ℤ pos s → (p ≡ q) × (r ≡ s)
same_by n (pos x) (pos y) r s l l' e = (let same = same_natural n x y r s l l' (omega (arith, ints)) in (ap pos same.0, same.1))
same_by n (pos x) (negsuc y) r s l l' e = absurd (omega (arith, ints, at_least n y))
same_by n (negsuc x) (pos y) r s l l' e = absurd (omega (arith, ints, at_least n x))
same_by n (negsuc x) (negsuc y) r s l l' e =
    let same = same_natural n (suc y) (suc x) r s l l' (omega (arith, ints)) in
    let below : x ≡ y = omega (arith, same.0) in
    (ap negsuc below, same.1)

opposite_times : (b : ℕ) (q : ℤ) → negsuc b *ℤ q ≡ pos (suc b) *ℤ neg_ℤ q
opposite_times b (pos zero) = omega (arith, ints)
opposite_times b (pos (suc x)) = refl
opposite_times b (negsuc x) = refl

same_opposite : (p q : ℤ) → neg_ℤ p ≡ neg_ℤ q → p ≡ q
same_opposite p q e = omega (arith, ints)

natural_of : (r : ℤ) → pos 0 ≤ℤ r → (k : ℕ) × (r ≡ pos k)
natural_of (pos k) le = (k, refl)
natural_of (negsuc k) le = absurd (omega (arith, ints))

same_whole : (b p q : ℤ) (r s : ℕ) → pos r <ℤ pos (unsigned_abs b) → pos s <ℤ pos (unsigned_abs b) → b *ℤ p +ℤ pos r ≡ b *ℤ q +ℤ pos s → (p ≡ q) × (r ≡ s)
same_whole (pos n) p q r s l l' e = same_by n p q r s (omega (arith, ints)) (omega (arith, ints)) e
same_whole (negsuc b) p q r s l l' e =
    let same = same_by (suc b) (neg_ℤ p) (neg_ℤ q) r s (omega (arith, ints)) (omega (arith, ints)) (ap (λ z. z +ℤ pos r) (sym (opposite_times b p)) ∙ e ∙ ap (λ z. z +ℤ pos s) (opposite_times b q)) in
    (same_opposite p q same.0, same.1)

pub one_division : (a b p q r s : ℤ) → IsDivision a b p r → IsDivision a b q s → (p ≡ q) × (r ≡ s)
one_division a b p q r s d d' =
    let k = natural_of r d.least in
    let m = natural_of s d'.least in
    let same =
    same_whole b p q k.0 m.0 (subst (λ z. z <ℤ pos (unsigned_abs b)) k.1 d.below) (subst (λ z. z <ℤ pos (unsigned_abs b)) m.1 d'.below)
    (ap (λ z. b *ℤ p +ℤ z) (sym k.1) ∙ sym d.whole ∙ d'.whole ∙ ap (λ z. b *ℤ q +ℤ z) m.1) in
    (same.0, k.1 ∙ ap pos same.1 ∙ sym m.1)

-- ---- so the values are those

not_by_zero : (a b q r : ℤ) → IsDivision a b q r → b ≢ pos 0
not_by_zero a b q r d e =
    let k = natural_of r d.least in
    let below = subst (λ z. z <ℤ pos (unsigned_abs b)) k.1 d.below in
    let none = subst (λ z. pos k.0 <ℤ pos (unsigned_abs z)) e below in
    omega (arith, ints, none)

pub values_of : (a b q r : ℤ) → IsDivision a b q r → (of_numerals DivInt a b ≡ Some (numeral q)) × (of_numerals ModInt a b ≡ Some (numeral r))
values_of a b q r d =
    let some = not_by_zero a b q r d in
    let same = one_division a b q (int_div_euclid a b) r (int_rem_euclid a b) d (divides_so a b some) in
    (rw (not_zero b some, same.0) refl, rw (not_zero b some, same.1) refl)

numeral_of : (p q : ℤ) → Some (numeral p) ≡ Some (numeral q) → p ≡ q
numeral_of p q e = cc

module _ (a b q r : ℤ) where
  -- what is divided where a test says whether the divisor is 0
  abbrev Divided : Bool → Type 0
  Divided by_zero = ((if by_zero then None else Some (numeral (int_div_euclid a b))) ≡ Some (numeral q)) × ((if by_zero then None else Some (numeral (int_rem_euclid a b))) ≡ Some (numeral r))

  divided : (by_zero : Bool) → int_eq b (pos 0) ≡ by_zero → Divided by_zero → IsDivision a b q r
  divided true is d = absurd (let e = d.0 in cc)
  divided false is d =
      let some : b ≢ pos 0 = λ e. (let yes = (Decides-int_eq b (pos 0)).1 e in absurd (cc)) in
      let same : int_div_euclid a b ≡ q = numeral_of _ _ d.0 in
      let same' : int_rem_euclid a b ≡ r = numeral_of _ _ d.1 in
      subst (λ z. IsDivision a b z r) same (subst (λ z. IsDivision a b (int_div_euclid a b) z) same' (divides_so a b some))

  pub division_of : of_numerals DivInt a b ≡ Some (numeral q) → of_numerals ModInt a b ≡ Some (numeral r) → IsDivision a b q r
  division_of e e' = divided (int_eq b (pos 0)) refl (e, e')
