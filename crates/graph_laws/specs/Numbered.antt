-- Numbered trees: finite trees that carry a number beside each head. A part that stands in several places has
-- one number.
use Rattle.std.specs.Prelude.{◌≡◌, ℕ, ◌==◌, cond, List, All, Some, slice_get}
use Rattle.eq_base.specs.Tree.{Tree, Forest, node, empty, grow, head_of, map_heads}

-- a tree with a number beside each head
abbrev pub Numbered : Type 0 → Type 0
Numbered H = Tree (H × ℕ)

module _ {H : Type 0} where
  -- the tree without its numbers
  abbrev pub plain : Numbered H → Tree H
  plain t = map_heads (λ l. l.0) t

  -- the number at the root
  abbrev pub root_number : Numbered H → ℕ
  root_number t = (head_of t).1

  -- each part of the tree, the whole among them, has the property
  abbrev mutual
    pub AllParts : (Numbered H → Type 0) → Numbered H → Type 0
    AllParts P (node l args) = P (node l args) × AllPartsIn P args

    pub AllPartsIn : (Numbered H → Type 0) → Forest (H × ℕ) → Type 0
    AllPartsIn P empty = Unit {0}
    AllPartsIn P (grow t ts) = AllParts P t × AllPartsIn P ts

  -- each part of these trees is the tree whose place in the list is its number; so a number has the same part
  -- wherever it stands
  abbrev pub AreShared : List (Numbered H) → Type 0
  AreShared trees = All (AllParts (λ part. slice_get trees (root_number part) ≡ Some part)) trees

  -- the tree with another in place of each part that has the number
  abbrev mutual
    pub replace_numbered : ℕ → Numbered H → Numbered H → Numbered H
    replace_numbered n u (node l args) = cond (l.1 == n) u (node l (replace_all_numbered n u args))

    pub replace_all_numbered : ℕ → Numbered H → Forest (H × ℕ) → Forest (H × ℕ)
    replace_all_numbered n u empty = empty
    replace_all_numbered n u (grow t ts) = grow (replace_numbered n u t) (replace_all_numbered n u ts)
