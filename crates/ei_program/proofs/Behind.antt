-- Bytes behind a place of a text.
use Rattle.std.proofs.Common.{◌≡◌, ℕ, zero, suc, ◌+◌, ◌<◌, List, [], ◌∷◌, length, drop, arith, refl, ap, slice_get, length-drop}

-- nothing stands at any place of nothing
none_at : {A : Type 0} (xs : List A) (m n : ℕ) → length xs ≡ 0 → slice_get xs m ≡ slice_get xs n
none_at [] zero zero e = refl
none_at [] zero (suc n) e = refl
none_at [] (suc m) zero e = refl
none_at [] (suc m) (suc n) e = refl
none_at (x ∷ xs) m n e = absurd (omega (arith, e))

-- a byte that is so far behind a place
pub get_behind : {A : Type 0} (text : List A) (from k place : ℕ) → place ≡ from + k → slice_get (drop from text) k ≡ slice_get text place
get_behind text zero k place e = ap (slice_get text) (omega (arith, e))
get_behind [] (suc from) k place e = none_at [] k place refl
get_behind (x ∷ text) (suc from) k zero e = absurd (omega (arith, e))
get_behind (x ∷ text) (suc from) k (suc place) e = get_behind text from k place (omega (arith, e))

-- a place within the bytes behind another
pub within_behind : {A : Type 0} (text bytes : List A) (from len : ℕ) → drop from text ≡ bytes → len < length bytes → from + len < length text
within_behind text bytes from len parts lt = omega (arith, lt, ap length parts, length-drop from text)
