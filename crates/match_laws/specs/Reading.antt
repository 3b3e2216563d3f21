-- A term read in preorder: the item set at each position, and what it is to hold.
use Rattle.std.specs.Prelude.{◌≡◌, ◌⊎◌, ◌↔◌, ℕ, zero, suc, List, [], ◌∷◌, ◌++◌, Some, slice_get}
use Rattle.eq_base.specs.Tree.{Tree, Forest, node, empty, grow, count, Position, subtree_at, number, IsBefore}
use Rattle.eq_base.specs.Pattern.{PatternCell, Classes}
use Rattle.eq_base.specs.Testing.{IsTestedAt, MeetsAt}
use Rattle.match_laws.specs.Items.{ItemSet, Holds, IsRead, IsSkip, WantsSkip}

-- each head of the trees has its number of arguments
abbrev pub KeepArities : {H : Type 0} → (H → ℕ) → Forest H → Type 0
KeepArities arity empty = Unit {0}
KeepArities arity (grow (node h us) ts) = (count us ≡ arity h) × KeepArities arity us × KeepArities arity ts

module _ {H : Type 0} (in_class : Classes H) (lefts : List (Tree (PatternCell H))) where
  -- ---- what is to hold

  -- the item is one of the term at the position: some position leads to this one as the left side's root
  -- leads to its cell, and the subterm there meets the left side at all the positions that it tests before
  pub record IsItemAt (t : Tree H) (q : Position) (e c : ℕ) : Type 0 where
    pub above : Position
    pub below : Position
    pub position : q ≡ above ++ below
    pub subterm : Tree H
    pub stands : subtree_at t above ≡ Some subterm
    pub left : Tree (PatternCell H)
    pub listed : slice_get lefts e ≡ Some left
    pub part : Tree (PatternCell H)
    pub part_stands : subtree_at left below ≡ Some part
    pub cell : number left below ≡ c
    pub met : (p : Position) → IsBefore p below → IsTestedAt left p → MeetsAt in_class left subterm p

  -- the item set holds exactly the items of the term at the position
  abbrev pub IsSetAt : Tree H → Position → ItemSet → Type 0
  IsSetAt t q items = (e c : ℕ) → Holds lefts items e c ↔ IsItemAt t q e c

  -- ---- reading

  -- the item set after a tree is read from another one: past the tree where a skip is wanted, and else past
  -- its head and its arguments
  abbrev mutual
    pub IsAfter : Tree H → ItemSet → ItemSet → Type 0
    IsAfter (node h ts) items next =
        (WantsSkip lefts items × IsSkip lefts items next)
        ⊎ ((WantsSkip lefts items → ⊥) × ((inner : ItemSet) × IsRead in_class lefts items h inner
        × AreAfter ts inner next))

    pub AreAfter : Forest H → ItemSet → ItemSet → Type 0
    AreAfter empty items next = items ≡ next
    AreAfter (grow t ts) items next = (between : ItemSet) × IsAfter t items between × AreAfter ts between next

  -- the item set at a position of a tree that is read from another item set: the heads above it and the trees
  -- before it are read
  abbrev mutual
    pub IsReached : Tree H → ItemSet → Position → ItemSet → Type 0
    IsReached t items [] next = items ≡ next
    IsReached (node h ts) items (i ∷ q) next = (inner : ItemSet) × IsRead in_class lefts items h inner
        × AreReached ts inner i q next

    pub AreReached : Forest H → ItemSet → ℕ → Position → ItemSet → Type 0
    AreReached empty items i q next = ⊥
    AreReached (grow t ts) items zero q next = IsReached t items q next
    AreReached (grow t ts) items (suc i) q next = (between : ItemSet) × IsAfter t items between
        × AreReached ts between i q next
