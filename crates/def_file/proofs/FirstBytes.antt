-- The first of the bytes that the items of a file give.
use Rattle.std.proofs.Common.{◌≡◌, ℕ, ◌+◌, ◌<◌, List, [], ◌∷◌, ◌++◌, map, drop, length, true, false, refl, sym, ap, ◌∙◌, subst, Option}
use Rattle.std.specs.Prelude.{slice_get, slice_index_or, is_some}
use Rattle.std.specs.List.{flat_map}
use Rattle.def_file.proofs.Namings.{drop-next}

first_here : {B : Type 0} (xs ys : List B) → is_some (slice_get xs 0) ≡ true → slice_get (xs ++ ys) 0 ≡ slice_get xs 0
first_here [] ys e = cc
first_here (x ∷ xs) ys e = refl

first_behind : {B : Type 0} (xs ys : List B) → is_some (slice_get xs 0) ≡ false → slice_get (xs ++ ys) 0 ≡ slice_get ys 0
first_behind [] ys e = refl
first_behind (x ∷ xs) ys e = cc

-- what the item at a place gives comes first of all from there on, and what the later items give where it gives nothing
module _ {A V B : Type 0} (view : A → V) (f : V → List B) (xs : List A) (i : ℕ) (x : A) (byte : Option B) (lt : i < length xs) (at : x ≡ slice_index_or xs i x) (gives : byte ≡ slice_get (f (view x)) 0) where
  split : drop i xs ≡ x ∷ drop (i + 1) xs
  split = drop-next xs i x lt ∙ ap (λ y. y ∷ drop (i + 1) xs) (sym at)

  pub item_here : is_some byte ≡ true → slice_get (flat_map f (map view (drop i xs))) 0 ≡ byte
  item_here some =
      ap (λ l. slice_get (flat_map f (map view l)) 0) split
      ∙ first_here (f (view x)) (flat_map f (map view (drop (i + 1) xs))) (subst (λ b. is_some b ≡ true) gives some) ∙ sym gives

  pub item_behind : is_some byte ≡ false → slice_get (flat_map f (map view (drop i xs))) 0 ≡ slice_get (flat_map f (map view (drop (i + 1) xs))) 0
  item_behind none =
      ap (λ l. slice_get (flat_map f (map view l)) 0) split
      ∙ first_behind (f (view x)) (flat_map f (map view (drop (i + 1) xs))) (subst (λ b. is_some b ≡ false) gives none)
