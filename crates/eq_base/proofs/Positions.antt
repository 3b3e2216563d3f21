-- Positions: each is that of a node, and each node has one.
use Rattle.std.proofs.Common.{◌≡◌, ℕ, zero, suc, ◌+◌, ◌<◌, List, [], ◌∷◌, ◌++◌, length, map, get_or, Option, Some, None, refl, sym, ◌∙◌, ap, arith, length-append}
use Rattle.std.proofs.lemmas.List.{map-append, length-map, get_or-map, get_or_append_left, get_or-append-add}
use Rattle.eq_base.specs.Tree.{Tree, Forest, node, empty, grow, size, subtrees, all_subtrees, nth_subtree, Position, positions, all_positions, nth_position, subtree_at, subtree_in}
use Rattle.eq_base.proofs.Trees.{length-subtrees}

pub map-map : {X Y Z : Type 0} (f : Y → Z) (g : X → Y) (h : X → Z) (xs : List X) → ((x : X) → f (g x) ≡ h x) → map f (map g xs) ≡ map h xs
map-map f g h [] e = refl
map-map f g h (x ∷ xs) e = rw (e x, map-map f g h xs e) refl

module _ {A : Type 0} where
  -- a subtree at a position is that of a node
  pub record IsNode (ts : List (Tree A)) (s : Tree A) : Type 0 where
    pub number : ℕ
    pub below : number < length ts
    pub is : (d : Tree A) → get_or ts number d ≡ s

  node_left : (xs ys : List (Tree A)) (s : Tree A) → IsNode xs s → IsNode (xs ++ ys) s
  node_left xs ys s n = record {
    number = n.number;
    below = omega (arith, n.below, length-append xs ys);
    is = λ d. get_or_append_left xs ys d n.number n.below ∙ n.is d;
  }

  node_right : (xs ys : List (Tree A)) (s : Tree A) → IsNode ys s → IsNode (xs ++ ys) s
  node_right xs ys s n = record {
    number = length xs + n.number;
    below = omega (arith, n.below, length-append xs ys);
    is = λ d. get_or-append-add xs ys n.number d ∙ n.is d;
  }

  mutual
    node_at : (t : Tree A) (q : Position) (s : Tree A) → subtree_at t q ≡ Some s → IsNode (subtrees t) s
    node_at (node a args) [] s h = record { number = 0; below = omega arith; is = λ d. cc }
    node_at (node a args) (i ∷ q) s h = node_right (node a args ∷ []) (all_subtrees args) s (node_in args i q s h)

    node_in : (ts : Forest A) (i : ℕ) (q : Position) (s : Tree A) → subtree_in ts i q ≡ Some s → IsNode (all_subtrees ts) s
    node_in empty i q s h = cc
    node_in (grow t ts) zero q s h = node_left (subtrees t) (all_subtrees ts) s (node_at t q s h)
    node_in (grow t ts) (suc i) q s h = node_right (subtrees t) (all_subtrees ts) s (node_in ts i q s h)

  pub number_of : (t : Tree A) (q : Position) (s : Tree A) → subtree_at t q ≡ Some s → (k : ℕ) × (k < size t) × (nth_subtree t k ≡ s)
  number_of t q s h =
      let n = node_at t q s h in
      (n.number, omega (arith, n.below, length-subtrees t), n.is t)

  -- ---- the position of a node

  abbrev at_pair : Forest A → ℕ × Position → Option (Tree A)
  at_pair ts p = subtree_in ts p.0 p.1

  mutual
    subtree_at-positions : (t : Tree A) → map (subtree_at t) (positions t) ≡ map Some (subtrees t)
    subtree_at-positions (node a args) =
        ap (λ l. Some (node a args) ∷ l)
        (map-map (subtree_at (node a args)) (λ p. p.0 ∷ p.1) (at_pair args) (all_positions args) (λ p. refl) ∙ subtree_in-positions args)

    subtree_in-positions : (ts : Forest A) → map (at_pair ts) (all_positions ts) ≡ map Some (all_subtrees ts)
    subtree_in-positions empty = refl
    subtree_in-positions (grow t ts) =
        map-append (at_pair (grow t ts)) (map (λ q. (0, q)) (positions t)) (map (λ p. (suc p.0, p.1)) (all_positions ts))
        ∙ rw (
          map-map (at_pair (grow t ts)) (λ q. (0, q)) (subtree_at t) (positions t) (λ q. refl),
          map-map (at_pair (grow t ts)) (λ p. (suc p.0, p.1)) (at_pair ts) (all_positions ts) (λ p. refl),
          subtree_at-positions t,
          subtree_in-positions ts,
        )
        (sym (map-append Some (subtrees t) (all_subtrees ts)))

  pub length-positions : (t : Tree A) → length (positions t) ≡ size t
  length-positions t =
      let some : Tree A → Option (Tree A) = λ s. Some s in
      omega (arith, ap length (subtree_at-positions t), length-map (positions t) (subtree_at t), length-map (subtrees t) some, length-subtrees t)

  pub subtree_at-nth_position : (t : Tree A) (k : ℕ) → k < size t → subtree_at t (nth_position t k) ≡ Some (nth_subtree t k)
  subtree_at-nth_position t k lt =
      let e = subtree_at-positions t in
      let some : Tree A → Option (Tree A) = λ s. Some s in
      let within : k < length (subtrees t) = omega (arith, length-subtrees t) in
      let within' : k < length (positions t) = omega (arith, ap length e, length-map (positions t) (subtree_at t), length-map (subtrees t) some, length-subtrees t) in
      sym (get_or-map (subtree_at t) (positions t) k [] None within')
      ∙ ap (λ l. get_or l k None) e
      ∙ get_or-map Some (subtrees t) k t None within
