-- Patterns in a vector.
use Rattle.std.proofs.Common.{◌≡◌, ℕ, ◌+◌, ◌-◌, ◌<◌, List, [], ◌∷◌, length, map, get_or, refl, sym, ◌∙◌, ap, arith}
use Rattle.eq_base.specs.Tree.{Tree, node, head_of, arity_of, size, nth_subtree, map_heads, cells}
use Rattle.eq_base.specs.Pattern.{PatternCell}
use Rattle.eq_base.specs.Preorder.{labels, tree_of}
use Rattle.eq_base.specs.Building.{missing_from, missing_of}
use Rattle.eq_base.specs.Cells.{arity_in, with_arity, root_cell, tree_cell, CellTakesArguments}
use Rattle.eq_base.specs.Kinds.{cell_from, cell_of, pattern_cell}
use Rattle.eq_base.specs.Vectors.{IsProper, AreProper, pattern_of, IsPatternVector}
use Rattle.eq_base.specs.declared.head.Head as heads
use Rattle.eq_base.specs.declared.head.Head.TheVariants as head
use Rattle.eq_base.specs.declared.head.Cell.TheVariants as cell
use Rattle.eq_base.specs.declared.kind.Kind as kinds
use Rattle.eq_base.specs.declared.kind.Kind.TheVariants.{Symbol, Numeral, Atom, Text, Var, Class}
use Rattle.eq_base.specs.declared.preorder.Node.{Node}
use Rattle.eq_base.proofs.Trees.{count-map_all_heads, size-map_heads, cells-map_heads, nth_subtree-map_heads}
use Rattle.eq_base.proofs.Reading.{length-nodes, item_is, arity_is, end_is}
use Rattle.eq_base.proofs.Terms.{label_holds}

-- ---- the cell of a part

abbrev label_of : Tree kinds.Kind → kinds.Kind × ℕ
label_of s = (head_of s, arity_of s)

root_cell-map_heads : (s : Tree kinds.Kind) → root_cell (map_heads pattern_cell s) ≡ cell_of (label_of s)
root_cell-map_heads (node (Symbol n) args) = ap (cell.Head (head.Symbol n)) (count-map_all_heads pattern_cell args)
root_cell-map_heads (node (Numeral i) args) = ap (cell.Head (head.Numeral i)) (count-map_all_heads pattern_cell args)
root_cell-map_heads (node (Atom n) args) = ap (cell.Head (head.Atom n)) (count-map_all_heads pattern_cell args)
root_cell-map_heads (node (Text n) args) = ap (cell.Head (head.Text n)) (count-map_all_heads pattern_cell args)
root_cell-map_heads (node (Var x) args) = refl
root_cell-map_heads (node (Class x class) args) = refl

arity_of-map_heads : {A B : Type 0} (f : A → B) (s : Tree A) → arity_of (map_heads f s) ≡ arity_of s
arity_of-map_heads f (node a args) = count-map_all_heads f args

module _ (nodes : List (Node kinds.Kind)) (p : Tree (PatternCell heads.Head)) (is : pattern_of nodes ≡ p) (vector : IsPatternVector nodes) where
  abbrev t : Tree kinds.Kind
  t = tree_of (Var 0) nodes

  size-pattern : size p ≡ size t
  size-pattern = ap size (sym is) ∙ size-map_heads pattern_cell t

  pub length-pattern : length nodes ≡ size p
  length-pattern = length-nodes t nodes vector.preorder ∙ sym size-pattern

  module _ (k : ℕ) (n : Node kinds.Kind) (read : n ≡ get_or nodes k n) (lt : k < size p) where
    small : k < size t
    small = omega (arith, size-pattern)

    proper : IsProper (n.item, n.arity)
    proper =
        let within : k < length nodes = omega (arith, length-pattern) in
        label_holds IsProper nodes k n vector.proper read within

    part : nth_subtree p k ≡ map_heads pattern_cell (nth_subtree t k)
    part = ap (λ r. nth_subtree r k) (sym is) ∙ nth_subtree-map_heads pattern_cell t k small

    arity_there : n.arity ≡ arity_of (nth_subtree t k)
    arity_there = arity_is t nodes vector.preorder k n read small

    pub cell_is : cell_from n.item n.arity ≡ root_cell (nth_subtree p k)
    cell_is =
        ap (λ i. cell_from i n.arity) (item_is t nodes vector.preorder k n read small)
        ∙ ap (cell_from (head_of (nth_subtree t k))) arity_there
        ∙ sym (root_cell-map_heads (nth_subtree t k))
        ∙ ap root_cell (sym part)

    pub cell_arity : arity_in (cell_from n.item n.arity) ≡ arity_of (nth_subtree p k)
    cell_arity = proper.arity ∙ arity_there ∙ sym (arity_of-map_heads pattern_cell (nth_subtree t k)) ∙ ap arity_of (sym part)

    pub cell_taken : CellTakesArguments (cell_from n.item n.arity)
    cell_taken = proper.arguments

    pub cell_end : n.end ≡ k + size (nth_subtree p k)
    cell_end =
        end_is t nodes vector.preorder k n read small
        ∙ ap (λ m. k + m) (sym (size-map_heads pattern_cell (nth_subtree t k)) ∙ ap size (sym part))

-- ---- building

missing_from-cells : (n : ℕ) (ls : List (kinds.Kind × ℕ)) → AreProper ls → missing_from n ls ≡ missing_from n (map with_arity (map cell_of ls))
missing_from-cells n [] all = refl
missing_from-cells n (l ∷ ls) all = missing_from-cells (n - 1 + l.1) ls all.1 ∙ ap (λ a. missing_from (n - 1 + a) (map with_arity (map cell_of ls))) (sym all.0.arity)

-- as many patterns are missing after the labels as after the cells
pub missing_of-cells : (ls : List (kinds.Kind × ℕ)) → AreProper ls → missing_of ls ≡ missing_of (map with_arity (map cell_of ls))
missing_of-cells ls all = missing_from-cells 1 ls all

-- a label as a cell of the pattern's tree
abbrev tree_label : kinds.Kind × ℕ → PatternCell heads.Head × ℕ
tree_label l = (pattern_cell l.0, l.1)

tree_cell-label : (l : kinds.Kind × ℕ) → IsProper l → tree_cell (cell_of l) ≡ tree_label l
tree_cell-label (Symbol n, a) _ = refl
tree_cell-label (Numeral i, a) _ = refl
tree_cell-label (Atom n, a) _ = refl
tree_cell-label (Text n, a) _ = refl
tree_cell-label (Var x, a) own = ap (λ m. (pattern_cell (Var x), m)) own.arity
tree_cell-label (Class x class, a) own = ap (λ m. (pattern_cell (Class x class), m)) own.arity

tree_labels : (ls : List (kinds.Kind × ℕ)) → AreProper ls → map tree_label ls ≡ map tree_cell (map cell_of ls)
tree_labels [] all = refl
tree_labels (l ∷ ls) all = rw (tree_cell-label l all.0, tree_labels ls all.1) refl

pub cells-pattern_of : (nodes : List (Node kinds.Kind)) → IsPatternVector nodes → cells (pattern_of nodes) ≡ map tree_cell (map cell_of (labels nodes))
cells-pattern_of nodes vector =
    cells-map_heads pattern_cell (tree_of (Var 0) nodes)
    ∙ ap (map tree_label) vector.preorder.cells
    ∙ tree_labels (labels nodes) vector.proper
