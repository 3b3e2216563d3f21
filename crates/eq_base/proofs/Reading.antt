-- What the cells of a preorder vector say of its tree.
use Rattle.std.proofs.Common.{◌≡◌, ℕ, zero, suc, ◌+◌, ◌<◌, List, [], ◌∷◌, ◌++◌, length, drop, get_or, refl, sym, ◌∙◌, ap, arith, append_assoc}
use Rattle.std.proofs.lemmas.List.{append-nil, get_or-map, get_or_default}
use Rattle.eq_base.specs.Tree.{Tree, Forest, node, empty, grow, head_of, arity_of, size, subtrees, all_subtrees, nth_subtree, cells, all_cells}
use Rattle.eq_base.specs.Storing.{first_trees, forest_of, first_size, first_trees-join, forest_of-all_cells-append}
use Rattle.eq_base.specs.Preorder.{end_at, IsPreorder}
use Rattle.eq_base.specs.declared.preorder.Node.{Node}
use Rattle.eq_base.proofs.Trees.{length-cells, length-subtrees, label_of, cells-subtrees}
use Rattle.eq_base.proofs.Ends.{length-labels, end_read}

module _ {T : Type 0} where
  -- the tree that begins at each cell
  abbrev begun : List (T × ℕ) → List (Tree T)
  begun [] = []
  begun (c ∷ cs) = node c.0 (first_trees c.1 (forest_of cs)) ∷ begun cs

  mutual
    begun-cells : (t : Tree T) (cs : List (T × ℕ)) → begun (cells t ++ cs) ≡ subtrees t ++ begun cs
    begun-cells (node a args) cs =
        rw (forest_of-all_cells-append args cs, first_trees-join args (forest_of cs), begun-all_cells args cs) refl

    begun-all_cells : (ts : Forest T) (cs : List (T × ℕ)) → begun (all_cells ts ++ cs) ≡ all_subtrees ts ++ begun cs
    begun-all_cells empty cs = refl
    begun-all_cells (grow t ts) cs =
        rw (append_assoc (cells t) (all_cells ts) cs, begun-cells t (all_cells ts ++ cs), begun-all_cells ts cs) (sym (append_assoc (subtrees t) (all_subtrees ts) (begun cs)))

  begun-at : (cs : List (T × ℕ)) (k : ℕ) (d : Tree T) → k < length cs → first_size (forest_of (drop k cs)) ≡ size (get_or (begun cs) k d)
  begun-at [] k d lt = absurd (omega arith)
  begun-at (c ∷ cs) zero d lt = refl
  begun-at (c ∷ cs) (suc k) d lt = begun-at cs k d (omega arith)

  subtrees-begun : (t : Tree T) → begun (cells t) ≡ subtrees t
  subtrees-begun t = ap begun (sym (append-nil (cells t))) ∙ begun-cells t [] ∙ append-nil (subtrees t)

  end_at-subtree : (t : Tree T) (k : ℕ) → k < size t → end_at (cells t) k ≡ k + size (nth_subtree t k)
  end_at-subtree t k lt =
      let within : k < length (cells t) = omega (arith, length-cells t) in
      ap (λ n. k + n) (begun-at (cells t) k t within ∙ ap (λ l. size (get_or l k t)) (subtrees-begun t))

  module _ (t : Tree T) (nodes : List (Node T)) (is : IsPreorder t nodes) where
    pub length-nodes : length nodes ≡ size t
    length-nodes = omega (arith, length-labels nodes, ap length is.cells, length-cells t)

    label_read : (k : ℕ) (n : Node T) → n ≡ get_or nodes k n → k < size t → (n.item, n.arity) ≡ label_of (nth_subtree t k)
    label_read k n read lt =
        let label : Node T → T × ℕ = λ m. (m.item, m.arity) in
        let within : k < length nodes = omega (arith, length-nodes) in
        let within' : k < length (subtrees t) = omega (arith, length-subtrees t) in
        ap label read
        ∙ sym (get_or-map label nodes k n (label_of t) within)
        ∙ ap (λ l. get_or l k (label_of t)) (sym is.cells ∙ cells-subtrees t)
        ∙ get_or-map label_of (subtrees t) k t (label_of t) within'

    pub item_is : (k : ℕ) (n : Node T) → n ≡ get_or nodes k n → k < size t → n.item ≡ head_of (nth_subtree t k)
    item_is k n read lt = ap (λ l. l.0) (label_read k n read lt)

    pub arity_is : (k : ℕ) (n : Node T) → n ≡ get_or nodes k n → k < size t → n.arity ≡ arity_of (nth_subtree t k)
    arity_is k n read lt = ap (λ l. l.1) (label_read k n read lt)

    pub end_is : (k : ℕ) (n : Node T) → n ≡ get_or nodes k n → k < size t → n.end ≡ k + size (nth_subtree t k)
    end_is k n read lt =
        let within : k < length nodes = omega (arith, length-nodes) in
        ap (λ m. m.end) read
        ∙ end_read nodes 0 k n is.ends (omega arith) within
        ∙ ap (λ l. end_at l k) (sym is.cells)
        ∙ end_at-subtree t k lt

    pub end_of-get_or : (k : ℕ) (d : Node T) → k < size t → (get_or nodes k d).end ≡ k + size (nth_subtree t k)
    end_of-get_or k d lt =
        let within : k < length nodes = omega (arith, length-nodes) in
        end_is k (get_or nodes k d) (get_or_default nodes k d (get_or nodes k d) within) lt
