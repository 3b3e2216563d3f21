-- Lists whose elements are related, one after another.
use Rattle.std.proofs.Common.{◌≡◌, ℕ, zero, suc, refl, arith, ◌<◌, ◌+◌, List, [], ◌∷◌, ◌++◌, length, map, take, drop, append_assoc, append-nil, get_or, ap, ◌∙◌, sym, add-one, subst, ◌≤◌}
use Rattle.std.proofs.Math.Seq.{take-suc}
use Rattle.std.proofs.lemmas.List.{take_all, map-append, take-append-drop}
use Rattle.std.specs.List.{flat_map}
use Rattle.def_file.proofs.Namings.{drop-next}
use Rattle.def_file.specs.Pairs.{AreRelated}

module _ {A B : Type 0} (R : A → B → Type 0) where
  -- one more of each
  pub related_more : (xs : List A) (ys : List B) (x : A) (y : B) → AreRelated R xs ys → R x y → AreRelated R (xs ++ x ∷ []) (ys ++ y ∷ [])
  related_more [] [] x y h r = (r, tt)
  related_more [] (y' ∷ ys) x y h r = absurd h
  related_more (x' ∷ xs) [] x y h r = absurd h
  related_more (x' ∷ xs) (y' ∷ ys) x y (h, hs) r = (h, related_more xs ys x y hs r)

  -- other elements in the place of the second ones
  pub related_map : {C : Type 0} (S : A → C → Type 0) (f : B → C) → ((x : A) (y : B) → R x y → S x (f y)) → (xs : List A) (ys : List B) → AreRelated R xs ys → AreRelated S xs (map f ys)
  related_map S f each [] [] h = tt
  related_map S f each [] (y ∷ ys) h = absurd h
  related_map S f each (x ∷ xs) [] h = absurd h
  related_map S f each (x ∷ xs) (y ∷ ys) (h, hs) = (each x y h, related_map S f each xs ys hs)

  -- the elements with a number
  pub related_at : (xs : List A) (ys : List B) (i : ℕ) (d : A) (e : B) → i < length xs → AreRelated R xs ys → R (get_or xs i d) (get_or ys i e)
  related_at [] ys i d e lt h = absurd (omega arith)
  related_at (x ∷ xs) [] i d e lt h = absurd h
  related_at (x ∷ xs) (y ∷ ys) zero d e lt (h, hs) = h
  related_at (x ∷ xs) (y ∷ ys) (suc i) d e lt (h, hs) = related_at xs ys i d e (omega arith) hs

  -- the lists are as long as each other
  pub length-related : (xs : List A) (ys : List B) → AreRelated R xs ys → length xs ≡ length ys
  length-related [] [] h = refl
  length-related [] (y ∷ ys) h = absurd h
  length-related (x ∷ xs) [] h = absurd h
  length-related (x ∷ xs) (y ∷ ys) (h, hs) = ap suc (length-related xs ys hs)

-- the front of a list that is one longer
pub take-next : {A : Type 0} (xs : List A) (i : ℕ) (x d : A) → x ≡ get_or xs i d → i < length xs → take (i + 1) xs ≡ take i xs ++ x ∷ []
take-next xs i x d is h = ap (λ k. take k xs) (add-one i) ∙ take-suc xs i d h ∙ ap (λ y. take i xs ++ y ∷ []) (sym is)

module _ {A B : Type 0} (R : A → B → Type 0) (xs : List A) (i : ℕ) where
  -- one more of each, as a loop meets them
  pub one_more : (x d : A) → x ≡ get_or xs i d → i < length xs → (ys zs : List B) (y : B) → zs ≡ ys ++ y ∷ [] → AreRelated R (take i xs) ys → R x y → AreRelated R (take (i + 1) xs) zs
  one_more x d is h ys zs y e hs r = subst (λ l. AreRelated R l zs) (sym (take-next xs i x d is h)) (subst (AreRelated R (take i xs ++ x ∷ [])) (sym e) (related_more R (take i xs) ys x y hs r))

  -- all of them
  pub related_all : length xs ≤ i → (ys : List B) → AreRelated R (take i xs) ys → AreRelated R xs ys
  related_all h ys hs = subst (λ l. AreRelated R l ys) (take_all i xs h) hs

-- the images of a front that is one longer
pub map_next : {A B : Type 0} (f : A → B) (xs : List A) (i : ℕ) (x d : A) → x ≡ get_or xs i d → i < length xs → map f (take (i + 1) xs) ≡ map f (take i xs) ++ f x ∷ []
map_next f xs i x d is h = ap (map f) (take-next xs i x d is h) ∙ map-append f (take i xs) (x ∷ [])

-- a list around one of its elements
pub around : {A : Type 0} (xs : List A) (i : ℕ) (x d : A) → x ≡ get_or xs i d → i < length xs → xs ≡ take i xs ++ x ∷ drop (i + 1) xs
around xs i x d is h = sym (take-append-drop i xs) ∙ ap (λ l. take i xs ++ l) (drop-next xs i d h ∙ ap (λ y. y ∷ drop (i + 1) xs) (sym is))

pub map_around : {A B : Type 0} (f : A → B) (xs : List A) (i : ℕ) (x d : A) → x ≡ get_or xs i d → i < length xs → map f xs ≡ map f (take i xs) ++ f x ∷ map f (drop (i + 1) xs)
map_around f xs i x d is h = ap (map f) (around xs i x d is h) ∙ map-append f (take i xs) (x ∷ drop (i + 1) xs)

pub flat_append : {A B : Type 0} (f : A → List B) (xs ys : List A) → flat_map f (xs ++ ys) ≡ flat_map f xs ++ flat_map f ys
flat_append f [] ys = refl
flat_append f (x ∷ xs) ys = ap (λ l. f x ++ l) (flat_append f xs ys) ∙ sym (append_assoc (f x) (flat_map f xs) (flat_map f ys))

pub flat_next : {A B : Type 0} (f : A → List B) (xs : List A) (i : ℕ) (x d : A) → x ≡ get_or xs i d → i < length xs → flat_map f (take (i + 1) xs) ≡ flat_map f (take i xs) ++ f x
flat_next f xs i x d is h = ap (flat_map f) (take-next xs i x d is h) ∙ flat_append f (take i xs) (x ∷ []) ∙ ap (λ l. flat_map f (take i xs) ++ l) (append-nil (f x))

pub flat_around : {A B : Type 0} (f : A → List B) (xs : List A) (i : ℕ) (x d : A) → x ≡ get_or xs i d → i < length xs → flat_map f xs ≡ flat_map f (take i xs) ++ (f x ++ flat_map f (drop (i + 1) xs))
flat_around f xs i x d is h = ap (flat_map f) (around xs i x d is h) ∙ flat_append f (take i xs) (x ∷ drop (i + 1) xs)
