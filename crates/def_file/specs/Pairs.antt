-- Two lists, element by element.
use Rattle.std.specs.Prelude.{List, [], ◌∷◌}

-- the lists are as long as each other, and their elements are so related, one after another
abbrev pub AreRelated : {A B : Type 0} → (A → B → Type 0) → List A → List B → Type 0
AreRelated R [] [] = Unit {0}
AreRelated R (x ∷ xs) (y ∷ ys) = R x y × AreRelated R xs ys
AreRelated R xs ys = ⊥
