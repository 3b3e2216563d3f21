-- Terms and patterns of which each node is looked at.
use Rattle.std.proofs.Common.{◌≡◌, ℕ, suc, ◌<◌, List, [], ◌∷◌, length, refl, subst, arith}
use Rattle.std.specs.Prelude.{slice_index_or}
use Rattle.std.specs.List.{AllByRecursion}
use Rattle.eq_base.specs.Tree.{Tree, Forest, node, empty, grow, head_of, size, subtrees, all_subtrees, nth_subtree, AllHeads, AllHeadsIn}
use Rattle.eq_base.specs.Pattern.{PatternCell, fixed, variable, restricted}
use Rattle.eq_base.specs.Cells.{root_cell, kind_of}
use Rattle.eq_base.specs.declared.head.Head.{Head}
use Rattle.eq_base.specs.declared.head.Cell.{Cell}
use Rattle.eq_base.proofs.Lists.{all_front, all_back}
use Rattle.eq_base.proofs.Trees.{length-subtrees}

all_from_numbers : {X : Type 0} (P : X → Type 0) (xs : List X) (d : X) → ((k : ℕ) → k < length xs → P (slice_index_or xs k d)) → AllByRecursion P xs
all_from_numbers P [] d f = tt
all_from_numbers P (x ∷ xs) d f = (f 0 (omega arith), all_from_numbers P xs d (λ k lt. f (suc k) (omega arith)))

module _ {A : Type 0} (P : A → Type 0) where
  mutual
    from_subtrees : (t : Tree A) → AllByRecursion (λ s. P (head_of s)) (subtrees t) → AllHeads P t
    from_subtrees (node a ts) h = (h.0, all_from_subtrees ts h.1)

    all_from_subtrees : (ts : Forest A) → AllByRecursion (λ s. P (head_of s)) (all_subtrees ts) → AllHeadsIn P ts
    all_from_subtrees empty h = tt
    all_from_subtrees (grow t ts) h = (
      from_subtrees t (all_front (λ s. P (head_of s)) (subtrees t) (all_subtrees ts) h),
      all_from_subtrees ts (all_back (λ s. P (head_of s)) (subtrees t) (all_subtrees ts) h),
    )

  -- what holds of the head of each node holds of all heads
  pub heads_from_nodes : (t : Tree A) (end : ℕ) → size t ≡ end → ((k : ℕ) → k < end → P (head_of (nth_subtree t k))) → AllHeads P t
  heads_from_nodes t end is has =
      from_subtrees t (all_from_numbers (λ s. P (head_of s)) (subtrees t) t (λ k lt. has k (omega (arith, length-subtrees t))))

kind_of-root : (p : Tree (PatternCell Head)) → kind_of (root_cell p) ≡ head_of p
kind_of-root (node (fixed h) ps) = refl
kind_of-root (node (variable x) ps) = refl
kind_of-root (node (restricted x class) ps) = refl

-- what is known of a cell is known of the node
pub cell_there : (P : PatternCell Head → Type 0) (p : Tree (PatternCell Head)) (c : Cell) → c ≡ root_cell p → P (kind_of c) → P (head_of p)
cell_there P p c is h = subst P (kind_of-root p) (subst (λ c. P (kind_of c)) is h)
