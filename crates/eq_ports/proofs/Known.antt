-- Laws of known bytes: what two calls after one another take and give.
use Rattle.std.proofs.Common.{◌≡◌, ℕ, ◌+◌, ◌-◌, ◌<◌, ◌≤◌, List, [], ◌++◌, length, take, drop, refl, sym, ◌∙◌, ap, append_assoc, append-nil, length-append, arith, length-drop, length-take, subst, None, Some}
use Rattle.std.specs.declared.option.Option.{Option}
use Rattle.std.proofs.lemmas.List.{take-append-drop, drop-drop, take_all, take_at}
use Rattle.std.specs.Io.KnownBytes.{Appends, Consumes, Keeps}

pub keeps_is_appends_none : (old new : Option (List ℕ)) → Keeps old new → Appends old new []
keeps_is_appends_none None new k = tt
keeps_is_appends_none (Some xs) None k = k
keeps_is_appends_none (Some xs) (Some ys) k = k ∙ sym (append-nil xs)

pub appends_none : (old : Option (List ℕ)) → Appends old old []
appends_none None = tt
appends_none (Some xs) = sym (append-nil xs)

pub appends_both : (a b c : Option (List ℕ)) (xs ys : List ℕ) → Appends a b xs → Appends b c ys → Appends a c (xs ++ ys)
appends_both None b c xs ys p q = tt
appends_both (Some a) None c xs ys p q = absurd p
appends_both (Some a) (Some b) None xs ys p q = q
appends_both (Some a) (Some b) (Some c) xs ys p q = q ∙ ap (λ z. z ++ ys) p ∙ append_assoc a xs ys

pub consumes_none : (old : Option (List ℕ)) → Consumes old old []
consumes_none None = tt
consumes_none (Some xs) = refl

pub consumes_both : (a b c : Option (List ℕ)) (xs ys : List ℕ) → Consumes a b xs → Consumes b c ys → Consumes a c (xs ++ ys)
consumes_both None b c xs ys p q = tt
consumes_both (Some a) None c xs ys p q = absurd p
consumes_both (Some a) (Some b) None xs ys p q = q
consumes_both (Some a) (Some b) (Some c) xs ys p q = p ∙ ap (λ z. xs ++ z) q ∙ sym (append_assoc xs ys c)

pub keeps_is_consumes_none : (old new : Option (List ℕ)) → Keeps old new → Consumes old new []
keeps_is_consumes_none None new k = tt
keeps_is_consumes_none (Some xs) None k = k
keeps_is_consumes_none (Some xs) (Some ys) k = sym k

-- the front goes on by a front of the rest
pub front_goes_on : (front rest bytes : List ℕ) (n : ℕ) → front ++ rest ≡ bytes → (front ++ take n rest) ++ take (length rest - n) (drop n rest) ≡ bytes
front_goes_on front rest bytes n parts =
    ap (λ z. (front ++ take n rest) ++ z) (take_all (length rest - n) (drop n rest) (omega (arith, length-drop n rest)))
    ∙ append_assoc front (take n rest) (drop n rest) ∙ ap (λ z. front ++ z) (take-append-drop n rest) ∙ parts

-- where some bytes are left, the whole is not empty
pub front_of_none : (front rest : List ℕ) → 0 < length rest → front ++ rest ≡ [] → ⊥
front_of_none front rest some none = omega (arith, some, ap length none, length-append front rest)

-- bytes copied from a place on, before what follows them
pub read_parts : (bytes into copied : List ℕ) (at n : ℕ) → at + n ≤ length bytes → copied ≡ take n (drop at bytes) → drop at bytes ≡ take n (copied ++ drop n into) ++ drop (at + n) bytes
read_parts bytes into copied at n within is =
    let len : length copied ≡ n = ap length is ∙ length-take n (drop at bytes) ∙ omega (arith, length-drop at bytes) in
    let front : take n (copied ++ drop n into) ≡ copied = take_at copied (drop n into) n len in
    sym (take-append-drop n (drop at bytes)) ∙ ap (λ z. z ++ drop n (drop at bytes)) (sym is ∙ sym front) ∙ ap (λ z. take n (copied ++ drop n into) ++ z) (drop-drop n at bytes)

-- known bytes lose the front that was read
pub read_consumes : (old : Option (List ℕ)) (bytes given : List ℕ) (at n : ℕ) → old ≡ Some (drop at bytes) → drop at bytes ≡ given ++ drop (at + n) bytes → Consumes old (Some (drop (at + n) bytes)) given
read_consumes old bytes given at n is parts = let P : Option (List ℕ) → Type 0 = λ o. Consumes o (Some (drop (at + n) bytes)) given in subst P (sym is) parts
