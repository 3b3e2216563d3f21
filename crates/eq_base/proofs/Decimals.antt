-- The texts of the numbers of 128 bits, and what they write.
use Rattle.std.proofs.Common.{◌≡◌, ℕ, suc, ◌+◌, ◌/◌, ◌%◌, ◌^◌, ◌<◌, ◌≤◌, List, [], ◌∷◌, ◌++◌, length, get_or, ℤ, pos, negsuc, FitsSigned, refl, sym, ap, ◌∙◌, arith, length-append}
use Rattle.std.proofs.Math.ListN.{get_or-append}
use Rattle.std.proofs.lemmas.Fmt.{decimal_digit, decimal_by_steps_wide, decimal_is_IsNumeral_wide}
use Rattle.std.specs.Fmt.{decimal, signed_decimal}
use Rattle.std.specs.Int.{w128}
use Rattle.eq_base.specs.Decimal.{WritesSize, IsDecimal}

-- some digits, the first of which is `0` only where they write zero
abbrev ZeroFirst : ℕ → List ℕ → Type 0
ZeroFirst n ds = (0 < length ds) × (get_or ds 0 0 ≡ 48 → n ≡ 0)

decimal-ZeroFirst : (n : ℕ) → n ≤ 2 ^ 127 → ZeroFirst n (decimal n)
decimal-ZeroFirst n h = decimal_by_steps_wide ZeroFirst (λ m small. (omega arith, λ e. omega arith)) more n (omega arith)
  where
    more : (m : ℕ) (ds : List ℕ) → 10 ≤ m → ZeroFirst (m / 10) ds → ZeroFirst m (ds ++ ((48 + m % 10) ∷ []))
    more m ds large front =
        let last : List ℕ = (48 + m % 10) ∷ [] in
        (omega (arith, length-append ds last), λ e. let none = front.1 (sym (get_or-append ds last 0 0 front.0) ∙ e) in absurd (omega arith))

-- the digits of a number write it
pub decimal-WritesSize : (n : ℕ) → n ≤ 2 ^ 127 → WritesSize (decimal n) n
decimal-WritesSize n h =
    let numeral = decimal_is_IsNumeral_wide n (omega arith) in
    record {
      some = numeral.0.0;
      all_digits = numeral.0.1;
      shortest = λ e. let none : n ≡ 0 = (decimal-ZeroFirst n h).1 e in rw none (ap length (decimal_digit 0 (omega arith)));
      value = numeral.1;
    }

-- what std prints of a number of 128 bits is its decimal text
pub is_decimal : (z : ℤ) → FitsSigned w128 z → IsDecimal z (signed_decimal z)
is_decimal (pos n) h = decimal-WritesSize n (omega (arith, h.sfits))
is_decimal (negsuc n) h = (decimal (suc n), refl, decimal-WritesSize (suc n) (omega (arith, h.sfits)))
