-- What contracts see of a `Classes`: the members of each class in their order.
use Rattle.std.specs.Prelude.{ℕ, ◌-◌, List, [], ◌∷◌, ◌++◌, set, slice_index_or}

module _ {H : Type 0} where
  -- the members of the class with this number, and none past the last class; the first class has the number 4
  abbrev pub members_of : List (List H) → ℕ → List H
  members_of classes class = slice_index_or classes (class - 4) []

  -- the classes with one more member at the end of this one
  abbrev pub with_member : List (List H) → ℕ → H → List (List H)
  with_member classes class h = set classes (class - 4) (members_of classes class ++ h ∷ [])
