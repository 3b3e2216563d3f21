-- Membership in lists by their structure.
use Rattle.std.proofs.Common.{◌≡◌, ℕ, zero, suc, List, [], ◌∷◌, ◌++◌, map, length, Some, refl, subst, arith}
use Rattle.std.specs.Prelude.{Contains, ◌<◌, slice_get, slice_index_or}
use Rattle.std.specs.List.{AllByRecursion}

-- x stands in the list
pub data In {A : Type 0} : List A → A → Type 0 where
  in_first : {x : A} {xs : List A} → In (x ∷ xs) x
  in_next : {x y : A} {xs : List A} → In xs x → In (y ∷ xs) x

module _ {A : Type 0} where
  in_at : (xs : List A) (k : ℕ) (x : A) → k < length xs → slice_index_or xs k x ≡ x → In xs x
  in_at [] k x below e = absurd (omega arith)
  in_at (y ∷ xs) zero x below e = subst (λ z. In (y ∷ xs) z) e in_first
  in_at (y ∷ xs) (suc k) x below e = in_next (in_at xs k x (omega arith) e)

  pub contains-in : {xs : List A} {x : A} → Contains xs x → In xs x
  contains-in {xs} {x} c = in_at xs c.0 x c.1 c.2

  pub in-contains : {xs : List A} {x : A} → In xs x → Contains xs x
  in-contains in_first = (0, omega arith, refl)
  in-contains (in_next i) = let c = in-contains i in (suc c.0, omega (arith, c.1), c.2)

  pub get-in : (xs : List A) (k : ℕ) (x : A) → slice_get xs k ≡ Some x → In xs x
  get-in [] k x e = absurd (cc)
  get-in (y ∷ xs) zero x e = let s : y ≡ x = cc in subst (λ z. In (y ∷ xs) z) s in_first
  get-in (y ∷ xs) (suc k) x e = in_next (get-in xs k x e)

  pub in-get : {xs : List A} {x : A} → In xs x → (k : ℕ) × (slice_get xs k ≡ Some x)
  in-get in_first = (0, refl)
  in-get (in_next i) = let w = in-get i in (suc w.0, w.1)

  pub all-in : (P : A → Type 0) {xs : List A} {x : A} → AllByRecursion P xs → In xs x → P x
  all-in P a in_first = a.0
  all-in P a (in_next i) = all-in P a.1 i

  pub in_left : {xs : List A} {x : A} → In xs x → (ys : List A) → In (xs ++ ys) x
  in_left in_first ys = in_first
  in_left (in_next i) ys = in_next (in_left i ys)

  pub in_right : {x : A} (xs : List A) {ys : List A} → In ys x → In (xs ++ ys) x
  in_right [] i = i
  in_right (y ∷ xs) i = in_next (in_right xs i)

module _ {A B : Type 0} (f : A → B) where
  pub in-map : {xs : List A} {x : A} → In xs x → In (map f xs) (f x)
  in-map in_first = in_first
  in-map (in_next i) = in_next (in-map i)

  pub map-in : (xs : List A) (y : B) → In (map f xs) y → (x : A) × In xs x × (f x ≡ y)
  map-in [] y i = elim i [ ]
  map-in (x ∷ xs) y in_first = (x, in_first, refl)
  map-in (x ∷ xs) y (in_next i) = let w = map-in xs y i in (w.0, in_next w.1, w.2)
