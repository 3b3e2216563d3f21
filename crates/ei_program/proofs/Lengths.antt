-- Lengths of fronts, and what follows from them, over plain numbers.
use Rattle.std.proofs.Common.{◌≡◌, ℕ, zero, suc, ◌+◌, ◌<◌, ◌≤◌, min, List, [], ◌∷◌, length, take, arith, inl, inr, refl, sym, ◌∙◌, ap}
use Rattle.std.specs.Prelude.{false, nat_lt}
use Rattle.std.proofs.lemmas.Bool.{cases_order}
use Rattle.std.proofs.lemmas.List.{length-take}
use borrow.Author.Tests.{ltb-false}
use Rattle.ei_program.proofs.Sums.{take_all}

-- a front as long as the list is the list
pub front_whole : {A : Type 0} (n : ℕ) (xs : List A) → n ≡ length xs → take n xs ≡ xs
front_whole zero [] e = refl
front_whole zero (x ∷ xs) e = absurd (omega (arith, e))
front_whole (suc n) [] e = absurd (omega (arith, e))
front_whole (suc n) (x ∷ xs) e = let rest : n ≡ length xs = omega (arith, e) in ap (λ ys. x ∷ ys) (front_whole n xs rest)

-- a front is no longer than the list, and no longer than was asked
pub front_le : {A : Type 0} (n : ℕ) (xs : List A) → length (take n xs) ≤ length xs
front_le n xs = omega (arith, length-take n xs)

pub front_most : {A : Type 0} (n : ℕ) (xs : List A) → length (take n xs) ≤ n
front_most n xs = omega (arith, length-take n xs)

-- no more is taken than there is
pub front_min : {A : Type 0} (xs : List A) (m n : ℕ) → m ≡ min (length xs) n → take m xs ≡ take n xs
front_min xs m n e = elim (cases_order (length xs) n) [
  | inl same ↦ let is : m ≡ n = omega (arith, e, same) in ap (λ k. take k xs) is
  | inr (inl less) ↦ let is : m ≡ length xs = omega (arith, e, less) in let all : length xs ≤ n = omega (arith, less) in ap (λ k. take k xs) is ∙ sym (take_all xs n all)
  | inr (inr more) ↦ let is : m ≡ n = omega (arith, e, more) in ap (λ k. take k xs) is
]

pub le_then : (a b c : ℕ) → a ≤ b → b ≤ c → a ≤ c
le_then a b c p q = omega (arith, p, q)

pub le_apart : (a b : ℕ) → a ≤ b → (a ≡ b → ⊥) → a < b
le_apart a b le other = omega (arith, le, other)

pub le_both : (a b : ℕ) → a ≤ b → b ≤ a → a ≡ b
le_both a b p q = omega (arith, p, q)

pub le_zero : (a : ℕ) → 0 ≤ a
le_zero a = omega arith

-- the bytes behind a place go on behind a front of them where all do
pub further : (window held place all : ℕ) → place + held ≡ all → window < held → place + window < all
further window held place all e lt = omega (arith, e, lt)

pub further_held : (window held place all : ℕ) → place + held ≡ all → place + window < all → window < held
further_held window held place all e lt = omega (arith, e, lt)

-- so many bytes of a front of what is held are behind a place
pub behind_front : (place at len window held : ℕ) → place ≡ at + len → len ≤ window → window ≤ held → place ≤ at + held
behind_front place at len window held e p q = omega (arith, e, p, q)

pub behind_le : (place at len : ℕ) → place ≡ at + len → at ≤ place
behind_le place at len e = omega (arith, e)

-- a number below another is not tested to be above
pub not_below : (n m : ℕ) → n < m → nat_lt n m ≡ false → ⊥
not_below n m lt is = omega (arith, lt, ltb-false n m is)
