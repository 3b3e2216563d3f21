-- Byte strings as the keys of a set.
use Rattle.std.proofs.Common.{◌≡◌, ◌⊎◌, ℕ, suc, zero, Bool, true, false, ◌||◌, cond, List, [], ◌∷◌, ◌++◌, take, slice_get, Some, Contains, find, if◌then◌else◌, refl, sym, ap, ◌∙◌, subst, inl, inr, true≢false}
use Rattle.std.specs.Global.{Vec}
use Rattle.std.specs.List.{list_any}
use Rattle.std.specs.Option.{option_map}
use Rattle.std.specs.Str.{bytes_eq}
use Rattle.std.proofs.lemmas.List.{map-append}
use Rattle.std.proofs.lemmas.Option.{none-some, slice_get-map}
use Rattle.std.proofs.lemmas.Slice.Eq.{bytes_eq-Decides}
use Rattle.indexmap.specs.IndexSet.{insert_key}
use Rattle.symbol_table.specs.Table.{AreDistinct, Interns}
use Rattle.symbol_table.specs.Entries.{bytes_of}
use Rattle.symbol_table.proofs.Places.{old_or_last, front, contains_from_place, place_from_contains}

-- the key has these bytes
abbrev pub has_bytes : List ℕ → Vec ℕ → Bool
has_bytes bytes key = bytes_eq bytes key.items

-- the bytes of two keys are the same
abbrev pub same_bytes : Vec ℕ → Vec ℕ → Bool
same_bytes one other = bytes_eq one.items other.items

passes_test : {X : Type 0} (test : X → Bool) (xs : List X) (x : X) → find test xs ≡ Some x → test x ≡ true
passes_test test [] x at = absurd (none-some x at)
passes_test {X} test (y ∷ xs) x at = by (test y) refl at (passes_test test xs x)
  where
    by : (b : Bool) → test y ≡ b → cond b (Some y) (find test xs) ≡ Some x → (find test xs ≡ Some x → test x ≡ true) → test x ≡ true
    by true passes found rest = let same : y ≡ x = cc in subst (λ (z : X). test z ≡ true) same passes
    by false fails found rest = rest found

-- where a key stands, its bytes have the same number
bytes_at : (keys : List (Vec ℕ)) (number : ℕ) (key : Vec ℕ) (bytes : List ℕ) → slice_get keys number ≡ Some key → bytes ≡ key.items
    → slice_get (bytes_of keys) number ≡ Some bytes
bytes_at keys number key bytes at same =
    slice_get-map (λ (k : Vec ℕ). k.items) keys number ∙ ap (option_map (λ (k : Vec ℕ). k.items)) at ∙ ap Some (sym same)

-- the key that a look-up finds has the bytes
pub found_at : (bytes : List ℕ) (keys : List (Vec ℕ)) (number : ℕ) (key : Vec ℕ) → slice_get keys number ≡ Some key
    → find (has_bytes bytes) keys ≡ Some key → slice_get (bytes_of keys) number ≡ Some bytes
found_at bytes keys number key at found =
    bytes_at keys number key bytes at ((bytes_eq-Decides bytes key.items).0 (passes_test (has_bytes bytes) keys key found))

-- where a look-up finds no key, none has the bytes
pub found_nowhere : (bytes : List ℕ) (keys : List (Vec ℕ)) → list_any (has_bytes bytes) keys ≡ false → (number : ℕ)
    → slice_get (bytes_of keys) number ≡ Some bytes → ⊥
found_nowhere bytes [] none number at = none-some bytes at
found_nowhere bytes (key ∷ keys) none number at = by (has_bytes bytes key) refl none number at (found_nowhere bytes keys)
  where
    by : (b : Bool) → has_bytes bytes key ≡ b → (b || list_any (has_bytes bytes) keys) ≡ false → (n : ℕ)
        → slice_get (key.items ∷ bytes_of keys) n ≡ Some bytes
        → (list_any (has_bytes bytes) keys ≡ false → (m : ℕ) → slice_get (bytes_of keys) m ≡ Some bytes → ⊥) → ⊥
    by true passes none' n at' rest = true≢false none'
    by false fails none' zero at' rest =
        let same : key.items ≡ bytes = cc in true≢false (sym ((bytes_eq-Decides bytes key.items).1 (sym same)) ∙ fails)
    by false fails none' (suc n) at' rest = rest none' n at'

-- an insert leaves the keys where one has the bytes, and else puts the new key behind them
bytes_of-insert_key : (keys : List (Vec ℕ)) (key : Vec ℕ)
    → (bytes_of (insert_key same_bytes keys key) ≡ bytes_of keys)
    ⊎ ((¬ Contains (bytes_of keys) key.items) × (bytes_of (insert_key same_bytes keys key) ≡ bytes_of keys ++ key.items ∷ []))
bytes_of-insert_key keys key = by (list_any (same_bytes key) keys) refl
  where
    by : (b : Bool) → list_any (same_bytes key) keys ≡ b
        → (bytes_of (if b then keys else keys ++ key ∷ []) ≡ bytes_of keys)
        ⊎ ((¬ Contains (bytes_of keys) key.items) × (bytes_of (if b then keys else keys ++ key ∷ []) ≡ bytes_of keys ++ key.items ∷ []))
    by true there = inl refl
    by false none = inr (
      λ has. let place = place_from_contains (bytes_of keys) key.items has in found_nowhere key.items keys none place.0 place.1,
      map-append (λ (k : Vec ℕ). k.items) keys (key ∷ []),
    )

pub Interns-insert_key : (keys : List (Vec ℕ)) (key : Vec ℕ) (number : ℕ) (stored : Vec ℕ)
    → slice_get (insert_key same_bytes keys key) number ≡ Some stored → same_bytes key stored ≡ true
    → Interns (bytes_of keys) (bytes_of (insert_key same_bytes keys key)) key.items number
Interns-insert_key keys key number stored at same = record {
  here = bytes_at (insert_key same_bytes keys key) number stored key.items at ((bytes_eq-Decides key.items stored.items).0 same);
  kept = bytes_of-insert_key keys key;
}

pub AreDistinct-push : (list : List (List ℕ)) (bytes : List ℕ) → AreDistinct list → ¬ Contains list bytes → AreDistinct (list ++ bytes ∷ [])
AreDistinct-push list bytes distinct fresh other one two first second =
    elim (old_or_last list bytes one other first) [
      | inl before ↦ elim (old_or_last list bytes two other second) [
        | inl too ↦ distinct other one two before too
        | inr here ↦ absurd (fresh (contains_from_place list one bytes (before ∙ ap Some (sym here.1))))
      ]
      | inr here ↦ elim (old_or_last list bytes two other second) [
        | inl too ↦ absurd (fresh (contains_from_place list two bytes (too ∙ ap Some (sym here.1))))
        | inr same ↦ here.0 ∙ sym same.0
      ]
    ]

pub AreDistinct-Interns : (old new : List (List ℕ)) (bytes : List ℕ) (number : ℕ) → Interns old new bytes number → AreDistinct old → AreDistinct new
AreDistinct-Interns old new bytes number interns distinct =
    elim interns.kept [
      | inl same ↦ subst AreDistinct (sym same) distinct
      | inr grown ↦ subst AreDistinct (sym grown.1) (AreDistinct-push old bytes distinct grown.0)
    ]

pub AreDistinct-take : (n : ℕ) (list : List (List ℕ)) → AreDistinct list → AreDistinct (take n list)
AreDistinct-take n list distinct bytes one other first second =
    distinct bytes one other (front n list one bytes first) (front n list other bytes second)
