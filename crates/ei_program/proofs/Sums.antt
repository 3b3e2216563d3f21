-- Lists that are made one element after another.
use Rattle.std.proofs.Common.{◌≡◌, ◌≤◌, ◌∙◌, ◌++◌, length, append-nil, append_assoc, sym, ℕ, zero, suc, ◌+◌, List, [], ◌∷◌, take, refl, ap, arith}
use Rattle.std.specs.Prelude.{Some, slice_get, flat_map}
use Rattle.std.proofs.lemmas.Option.{none-some}
use Rattle.eq_base.proofs.Heads.{some_same}

-- what the elements give, with one element more
pub flat_next : {X A : Type 0} (f : X → List A) (xs : List X) (i : ℕ) (x : X) → slice_get xs i ≡ Some x → flat_map f (take (i + 1) xs) ≡ flat_map f (take i xs) ++ f x
flat_next f [] i x is = absurd (none-some x is)
flat_next f (y ∷ ys) zero x is = ap (λ z. f z ++ []) (some_same y x is) ∙ append-nil (f x)
flat_next f (y ∷ ys) (suc i) x is =
    let far : suc i + 1 ≡ suc (i + 1) = omega arith in
    ap (λ n. flat_map f (take n (y ∷ ys))) far ∙ ap (λ zs. f y ++ zs) (flat_next f ys i x is) ∙ sym (append_assoc (f y) (flat_map f (take i ys)) (f x))

-- no more elements are taken than there are
pub take_all : {X : Type 0} (xs : List X) (k : ℕ) → length xs ≤ k → take k xs ≡ take (length xs) xs
take_all [] zero le = refl
take_all [] (suc k) le = refl
take_all (x ∷ xs) zero le = absurd (omega (arith, le))
take_all (x ∷ xs) (suc k) le = ap (λ zs. x ∷ zs) (take_all xs k (omega (arith, le)))
