-- Patterns whose variables stand with their classes.
use Rattle.std.proofs.Common.{◌≡◌, ℕ, ◌+◌, ◌-◌, ◌<◌, ◌≤◌, List, [], ◌∷◌, ◌++◌, map, take, drop, length, refl, sym, ap, ◌∙◌, subst, arith, get_or}
use Rattle.std.proofs.lemmas.List.{take-append-drop, take_all, get_or-map}
use Rattle.eq_base.specs.Tree.{Tree, Forest, node, empty, grow, size, cells, subtrees, nth_subtree, arity_of, map_heads, map_all_heads}
use Rattle.eq_base.specs.Pattern.{PatternCell, fixed, variable, restricted}
use Rattle.eq_base.specs.Building.{missing_from, missing_of}
use Rattle.eq_base.specs.Cells.{with_arity, tree_cell, arity_in, kind_of, root_cell}
use Rattle.eq_base.specs.declared.head.Head.{Head}
use Rattle.eq_base.specs.declared.head.Cell.{Cell}
use Rattle.eq_base.proofs.Trees.{length-cells, length-subtrees, size-map_heads, count-map_all_heads, cells-subtrees, label_of, nth_subtree-map_heads}
use Rattle.eq_base.proofs.Replacing.{missing_before, missing_of-cells}
use Rattle.def_file.specs.Definitions.{classed}
use Rattle.def_file.proofs.Namings.{drop-next}
use Rattle.def_file.proofs.Pairs.{take-next}

-- no variable is in a class where there are none
none_classed : (c : PatternCell Head) → c ≡ classed [] c
none_classed (fixed h) = refl
none_classed (variable x) = refl
none_classed (restricted x class) = refl

mutual
  pub same_pattern : (p : Tree (PatternCell Head)) → p ≡ map_heads (classed []) p
  same_pattern (node c ps) = ap (λ x. node x ps) (none_classed c) ∙ ap (node (classed [] c)) (same_patterns ps)

  same_patterns : (ps : Forest (PatternCell Head)) → ps ≡ map_all_heads (classed []) ps
  same_patterns empty = refl
  same_patterns (grow p ps) = ap (λ x. grow x ps) (same_pattern p) ∙ ap (grow (map_heads (classed []) p)) (same_patterns ps)

missing_cells : (n : ℕ) (cs : List Cell) → missing_from n (map tree_cell cs) ≡ missing_from n (map with_arity cs)
missing_cells n [] = refl
missing_cells n (c ∷ cs) = missing_cells (n - 1 + arity_in c) cs

-- a cell, for the places past the end of a list
no_cell : PatternCell Head × ℕ
no_cell = (variable 0, 0)

-- The first cells of a pattern.
module _ (p : Tree (PatternCell Head)) (cs : List Cell) (i : ℕ) (front : map tree_cell cs ≡ take i (cells p)) where
  pub more_missing : i < length (cells p) → 0 < missing_of (map with_arity cs)
  more_missing lt =
      let d = get_or (cells p) i no_cell in
      let whole : cells p ≡ take i (cells p) ++ d ∷ drop (i + 1) (cells p) = sym (take-append-drop i (cells p)) ∙ ap (λ l. take i (cells p) ++ l) (drop-next (cells p) i no_cell lt) in
      subst (λ n. 0 < n) (missing_cells 1 cs) (missing_before p (map tree_cell cs) d (drop (i + 1) (cells p)) (whole ∙ ap (λ l. l ++ d ∷ drop (i + 1) (cells p)) (sym front)))

  pub none_missing : length (cells p) ≤ i → missing_of (map with_arity cs) ≡ 0
  none_missing le = sym (missing_cells 1 cs) ∙ ap missing_of (front ∙ take_all i (cells p) le) ∙ missing_of-cells p

same_label : (f : PatternCell Head → PatternCell Head) (t : Tree (PatternCell Head)) → label_of (map_heads f t) ≡ (f (kind_of (root_cell t)), arity_of t)
same_label f (node (fixed h) args) = ap (λ n. (f (fixed h), n)) (count-map_all_heads f args)
same_label f (node (variable x) args) = ap (λ n. (f (variable x), n)) (count-map_all_heads f args)
same_label f (node (restricted x class) args) = ap (λ n. (f (restricted x class), n)) (count-map_all_heads f args)

-- one more cell of a pattern with other heads
pub next_cell : (f : PatternCell Head → PatternCell Head) (p : Tree (PatternCell Head)) (i : ℕ) → i < size p → (c : Cell) → c ≡ root_cell (nth_subtree p i) → arity_in c ≡ arity_of (nth_subtree p i) → take i (cells (map_heads f p)) ++ (f (kind_of c), arity_in c) ∷ [] ≡ take (i + 1) (cells (map_heads f p))
next_cell f p i lt c is arity =
    let below : i < length (cells (map_heads f p)) = omega (arith, length-cells (map_heads f p), size-map_heads f p, lt) in
    let within : i < length (subtrees (map_heads f p)) = omega (arith, length-subtrees (map_heads f p), size-map_heads f p, lt) in
    let here : get_or (cells (map_heads f p)) i (label_of (map_heads f p)) ≡ (f (kind_of c), arity_in c) =
    ap (λ l. get_or l i (label_of (map_heads f p))) (cells-subtrees (map_heads f p))
    ∙ get_or-map label_of (subtrees (map_heads f p)) i (map_heads f p) (label_of (map_heads f p)) within
    ∙ ap label_of (nth_subtree-map_heads f p i lt)
    ∙ same_label f (nth_subtree p i)
    ∙ sym (ap (λ x. (f (kind_of x), arity_in x)) is ∙ ap (λ n. (f (kind_of (root_cell (nth_subtree p i))), n)) (sym (ap arity_in is) ∙ arity)) in
    sym (take-next (cells (map_heads f p)) i (f (kind_of c), arity_in c) (label_of (map_heads f p)) (sym here) below)
