-- The numbers of positions in preorder.
use Rattle.std.proofs.Common.{◌≡◌, ℕ, zero, suc, ◌+◌, ◌<◌, ◌≤◌, [], ◌∷◌, ◌++◌, get_or, Some, refl, ◌∙◌, ap, arith}
use Rattle.std.specs.Prelude.{◌≢◌}
use Rattle.std.proofs.lemmas.List.{get_or_append_left, get_or-append-add}
use Rattle.eq_base.specs.Tree.{Tree, Forest, node, empty, grow, size, total_size, subtrees, all_subtrees, nth_subtree, Position, nth_position, subtree_at, subtree_in, number, number_in}
use Rattle.eq_base.specs.Storing.{first_trees}
use Rattle.eq_base.proofs.Trees.{length-subtrees}
use Rattle.eq_base.proofs.Positions.{subtree_at-nth_position}
use Rattle.eq_base.proofs.Replacing.{number-nth_position}

module _ {A : Type 0} where
  -- a subtree has a node
  pub has_node : (t : Tree A) → 0 < size t
  has_node (node a args) = omega arith

  mutual
    pub number_within : (t : Tree A) (q : Position) (s : Tree A) → subtree_at t q ≡ Some s → number t q + size s ≤ size t
    number_within (node a args) [] s e = let z : node a args ≡ s = cc in let z' = ap size z in omega (arith, z')
    number_within (node a args) (i ∷ q) s e = omega (arith, number_within_in args i q s e)

    pub number_within_in : (ts : Forest A) (i : ℕ) (q : Position) (s : Tree A) → subtree_in ts i q ≡ Some s → number_in ts i q + size s ≤ total_size ts
    number_within_in empty i q s e = absurd (cc)
    number_within_in (grow t ts) zero q s e = omega (arith, number_within t q s e)
    number_within_in (grow t ts) (suc i) q s e = omega (arith, number_within_in ts i q s e)

  -- the number of a position is below that of nodes
  pub number_below : (t : Tree A) (q : Position) (s : Tree A) → subtree_at t q ≡ Some s → number t q < size t
  number_below t q s e = omega (arith, number_within t q s e, has_node s)

  mutual
    pub subtree-append : (t : Tree A) (q p : Position) (s : Tree A) → subtree_at t q ≡ Some s → subtree_at t (q ++ p) ≡ subtree_at s p
    subtree-append (node a args) [] p s e = let z : node a args ≡ s = cc in ap (λ t. subtree_at t p) z
    subtree-append (node a args) (i ∷ q) p s e = subtree-append_in args i q p s e

    subtree-append_in : (ts : Forest A) (i : ℕ) (q p : Position) (s : Tree A) → subtree_in ts i q ≡ Some s → subtree_in ts i (q ++ p) ≡ subtree_at s p
    subtree-append_in empty i q p s e = absurd (cc)
    subtree-append_in (grow t ts) zero q p s e = subtree-append t q p s e
    subtree-append_in (grow t ts) (suc i) q p s e = subtree-append_in ts i q p s e

  mutual
    pub number-append : (t : Tree A) (q p : Position) (s : Tree A) → subtree_at t q ≡ Some s → number t (q ++ p) ≡ number t q + number s p
    number-append (node a args) [] p s e = let z : node a args ≡ s = cc in let z' = ap (λ t. number t p) z in omega (arith, z')
    number-append (node a args) (i ∷ q) p s e = omega (arith, number-append_in args i q p s e)

    number-append_in : (ts : Forest A) (i : ℕ) (q p : Position) (s : Tree A) → subtree_in ts i q ≡ Some s → number_in ts i (q ++ p) ≡ number_in ts i q + number s p
    number-append_in empty i q p s e = absurd (cc)
    number-append_in (grow t ts) zero q p s e = number-append t q p s e
    number-append_in (grow t ts) (suc i) q p s e = omega (arith, number-append_in ts i q p s e)

  -- positions with one number are one
  mutual
    pub number-one : (t : Tree A) (p q : Position) (s u : Tree A) → subtree_at t p ≡ Some s → subtree_at t q ≡ Some u → number t p ≡ number t q → p ≡ q
    number-one (node a args) [] [] s u e e' n = refl
    number-one (node a args) [] (j ∷ q) s u e e' n = absurd (omega (arith, n))
    number-one (node a args) (i ∷ p) [] s u e e' n = absurd (omega (arith, n))
    number-one (node a args) (i ∷ p) (j ∷ q) s u e e' n = number-one_in args i j p q s u e e' (omega (arith, n))

    number-one_in : (ts : Forest A) (i j : ℕ) (p q : Position) (s u : Tree A) → subtree_in ts i p ≡ Some s → subtree_in ts j q ≡ Some u → number_in ts i p ≡ number_in ts j q → i ∷ p ≡ j ∷ q
    number-one_in empty i j p q s u e e' n = absurd (cc)
    number-one_in (grow t ts) zero zero p q s u e e' n = ap (λ z. 0 ∷ z) (number-one t p q s u e e' n)
    number-one_in (grow t ts) zero (suc j) p q s u e e' n = absurd (omega (arith, n, number_within t p s e, has_node s))
    number-one_in (grow t ts) (suc i) zero p q s u e e' n = absurd (omega (arith, n, number_within t q u e', has_node u))
    number-one_in (grow t ts) (suc i) (suc j) p q s u e e' n = let z = number-one_in ts i j p q s u e e' (omega (arith, n)) in cc

  -- the position with a number is the one that has it
  pub position-number : (t : Tree A) (q : Position) (s : Tree A) → subtree_at t q ≡ Some s → nth_position t (number t q) ≡ q
  position-number t q s e =
      let lt = number_below t q s e in
      number-one t (nth_position t (number t q)) q (nth_subtree t (number t q)) s (subtree_at-nth_position t (number t q) lt) e (number-nth_position t (number t q) lt)

  pub number_first : (ts : Forest A) (i : ℕ) (s : Tree A) → subtree_in ts i [] ≡ Some s → number_in ts i [] ≡ total_size (first_trees i ts)
  number_first empty i s e = absurd (cc)
  number_first (grow t ts) zero s e = refl
  number_first (grow t ts) (suc i) s e = omega (arith, number_first ts i s e)

  -- ---- the subtree with a position's number

  mutual
    stands_at : (t : Tree A) (q : Position) (s d : Tree A) → subtree_at t q ≡ Some s → get_or (subtrees t) (number t q) d ≡ s
    stands_at (node a args) [] s d e = cc
    stands_at (node a args) (i ∷ q) s d e = stands_in args i q s d e

    stands_in : (ts : Forest A) (i : ℕ) (q : Position) (s d : Tree A) → subtree_in ts i q ≡ Some s → get_or (all_subtrees ts) (number_in ts i q) d ≡ s
    stands_in empty i q s d e = absurd (cc)
    stands_in (grow t ts) zero q s d e = get_or_append_left (subtrees t) (all_subtrees ts) d (number t q) (omega (arith, number_below t q s e, length-subtrees t)) ∙ stands_at t q s d e
    stands_in (grow t ts) (suc i) q s d e = rw (← length-subtrees t) (get_or-append-add (subtrees t) (all_subtrees ts) (number_in ts i q) d) ∙ stands_in ts i q s d e

  pub nth_subtree-number : (t : Tree A) (q : Position) (s : Tree A) → subtree_at t q ≡ Some s → nth_subtree t (number t q) ≡ s
  nth_subtree-number t q s e = stands_at t q s t e

  -- a position below the root has a number above 0
  pub number_above : (t : Tree A) (q : Position) → q ≢ [] → 0 < number t q
  number_above t [] n = absurd (n refl)
  number_above (node a args) (i ∷ q) n = omega arith
