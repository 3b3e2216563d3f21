-- Scans of a tree's cells in preorder: the trees that begin at a cell or after it, side by side.
use Rattle.std.proofs.Common.{◌≡◌, ℕ, ◌+◌, ◌<◌, ◌≤◌, List, ◌++◌, length, map, drop, refl, sym, ◌∙◌, ap, arith}
use Rattle.std.proofs.lemmas.List.{drop_all, drop-drop, drop-map, map-append}
use Rattle.eq_base.specs.Tree.{Tree, Forest, node, empty, grow, args_of, size, subtrees, nth_subtree, cells, all_cells}
use Rattle.eq_base.specs.Storing.{forest_of, join, forest_of-cells-append, forest_of-all_cells-append}
use Rattle.eq_base.proofs.Trees.{length-cells, label_of, cells-subtrees, subtrees-from, forest_of-cells}

module _ {T : Type 0} where
  -- the trees that begin at cell k or after it
  abbrev pub forest_from : Tree T → ℕ → Forest T
  forest_from t k = forest_of (drop k (cells t))

  pub cells-from : (t : Tree T) (k : ℕ) → k < size t → drop k (cells t) ≡ cells (nth_subtree t k) ++ drop (k + size (nth_subtree t k)) (cells t)
  cells-from t k lt =
      let s = nth_subtree t k in
      ap (λ l. drop k l) (cells-subtrees t)
      ∙ drop-map label_of k (subtrees t)
      ∙ ap (map label_of) (subtrees-from t k lt)
      ∙ map-append label_of (subtrees s) (drop (k + size s) (subtrees t))
      ∙ ap (λ l. l ++ map label_of (drop (k + size s) (subtrees t))) (sym (cells-subtrees s))
      ∙ ap (λ l. cells s ++ l) (sym (drop-map label_of (k + size s) (subtrees t)) ∙ ap (λ l. drop (k + size s) l) (sym (cells-subtrees t)))

  pub forest_from-node : (t : Tree T) (k : ℕ) → k < size t → forest_from t k ≡ grow (nth_subtree t k) (forest_from t (k + size (nth_subtree t k)))
  forest_from-node t k lt =
      ap forest_of (cells-from t k lt) ∙ forest_of-cells-append (nth_subtree t k) (drop (k + size (nth_subtree t k)) (cells t))

  tail_cells : (s : Tree T) (cs : List (T × ℕ)) → drop 1 (cells s ++ cs) ≡ all_cells (args_of s) ++ cs
  tail_cells (node a args) cs = refl

  pub forest_from-args : (t : Tree T) (k : ℕ) → k < size t → forest_from t (k + 1) ≡ join (args_of (nth_subtree t k)) (forest_from t (k + size (nth_subtree t k)))
  forest_from-args t k lt =
      let s = nth_subtree t k in
      let rest = drop (k + size s) (cells t) in
      ap forest_of (sym (drop-drop 1 k (cells t)) ∙ ap (λ l. drop 1 l) (cells-from t k lt) ∙ tail_cells s rest)
      ∙ forest_of-all_cells-append (args_of s) rest

  pub forest_from-start : (t : Tree T) → forest_from t 0 ≡ grow t empty
  forest_from-start t = forest_of-cells t

  pub forest_from-end : (t : Tree T) (k : ℕ) → size t ≤ k → forest_from t k ≡ empty
  forest_from-end t k past =
      let none : length (cells t) ≤ k = omega (arith, length-cells t) in
      ap forest_of (drop_all k (cells t) none)
