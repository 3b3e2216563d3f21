-- Forests that are read tree by tree and cell by cell: right sides with patterns in place of variables, and parts of merged patterns.
use Rattle.std.proofs.Common.{◌≡◌, ℕ, suc, ◌+◌, ◌<◌, ◌≤◌, refl, sym, ◌∙◌, ap, arith, ⊎_elim}
use Rattle.std.proofs.lemmas.Bool.{cases_lt}
use Rattle.std.specs.Prelude.{◌↔◌}
use Rattle.eq_base.specs.Tree.{Tree, Forest, node, empty, grow, head_of, args_of, arity_of, count, size, total_size, nth_subtree, map_all_heads}
use Rattle.eq_base.specs.Storing.{join, first_trees, later_trees, first_trees-join, later_trees-join}
use Rattle.eq_base.specs.Pattern.{PatternCell, fixed, variable, restricted, Substitution, apply_all}
use Rattle.eq_base.specs.Cells.{root_cell, arity_in}
use Rattle.eq_base.specs.declared.head.Head as heads
use Rattle.eq_base.specs.declared.head.Cell as cells
use Rattle.eq_base.specs.declared.head.Cell.TheVariants as cell
use Rattle.eq_base.proofs.Scans.{forest_from, forest_from-start, forest_from-node, forest_from-args, forest_from-end}
use Rattle.eq_base.proofs.Trees.{end_within, nth_subtree-nth_subtree}
use Rattle.regularity.specs.Merge.{merge, merge_all, named, all_named, cell_over, fill}
use Rattle.regularity.specs.MergedParts.{named_cell}

module _ {A : Type 0} where
  -- the first tree has this head over so many arguments, and these trees come next, its arguments first
  pub record OpensTo (ts : Forest A) (a : A) (n : ℕ) (next : Forest A) : Type 0 where
    pub args : Forest A
    pub rest : Forest A
    pub is : ts ≡ grow (node a args) rest
    pub many : count args ≡ n
    pub next_is : join args rest ≡ next

  grow-same : (t u : Tree A) (ts us : Forest A) → grow t ts ≡ grow u us → (t ≡ u) × (ts ≡ us)
  grow-same t u ts us e = (cc, cc)

  join-same : (ts us vs ws : Forest A) → count ts ≡ count vs → join ts us ≡ join vs ws → (ts ≡ vs) × (us ≡ ws)
  join-same ts us vs ws n e = (
    sym (first_trees-join ts us) ∙ ap (first_trees (count ts)) e ∙ ap (λ k. first_trees k (join vs ws)) n ∙ first_trees-join vs ws,
    sym (later_trees-join ts us) ∙ ap (later_trees (count ts)) e ∙ ap (λ k. later_trees k (join vs ws)) n ∙ later_trees-join vs ws,
  )

  -- two lists of trees with the same head at the front are the same where what comes next is
  pub open_both : (ts us : Forest A) (a b : A) (n m : ℕ) (ts' us' : Forest A) → OpensTo ts a n ts' → OpensTo us b m us' → a ≡ b → n ≡ m → (ts ≡ us) ↔ (ts' ≡ us')
  open_both ts us a b n m ts' us' o p same many = (
    λ e.
        let g = grow-same (node a o.args) (node b p.args) o.rest p.rest (sym o.is ∙ e ∙ p.is) in
        let args : o.args ≡ p.args = let h = g.0 in cc in
        let rest = g.1 in
        sym o.next_is ∙ ap (λ xs. join xs o.rest) args ∙ ap (join p.args) rest ∙ p.next_is,
    λ e.
        let j = join-same o.args o.rest p.args p.rest (o.many ∙ many ∙ sym p.many) (o.next_is ∙ e ∙ sym p.next_is) in
        o.is ∙ rw (same, j.0, j.1) refl ∙ sym p.is,
  )

  -- and they differ where the heads, or their numbers of arguments, do
  pub heads_same : (ts us : Forest A) (a b : A) (n m : ℕ) (ts' us' : Forest A) → OpensTo ts a n ts' → OpensTo us b m us' → ts ≡ us → (a ≡ b) × (n ≡ m)
  heads_same ts us a b n m ts' us' o p e =
      let g = (grow-same (node a o.args) (node b p.args) o.rest p.rest (sym o.is ∙ e ∙ p.is)).0 in
      (let h = g in cc, let args : o.args ≡ p.args = let h = g in cc in sym o.many ∙ ap count args ∙ p.many)

  -- two lists of trees with the same first tree are the same where the others are
  pub pass_both : (t u : Tree A) (ts us xs ys : Forest A) → xs ≡ grow t ts → ys ≡ grow u us → t ≡ u → (xs ≡ ys) ↔ (ts ≡ us)
  pass_both t u ts us xs ys x y same = (λ e. (grow-same t u ts us (sym x ∙ e ∙ y)).1, λ e. x ∙ rw (same, e) refl ∙ sym y)

  pub firsts_same : (t u : Tree A) (ts us xs ys : Forest A) → xs ≡ grow t ts → ys ≡ grow u us → xs ≡ ys → t ≡ u
  firsts_same t u ts us xs ys x y e = (grow-same t u ts us (sym x ∙ e ∙ y)).0

  pub only_tree : (t u : Tree A) → (t ≡ u) ↔ (grow t empty ≡ grow u empty)
  only_tree t u = (λ e. rw e refl, λ e. (grow-same t u empty empty e).0)

  count-join : (ts us : Forest A) → count (join ts us) ≡ count ts + count us
  count-join empty us = omega arith
  count-join (grow t ts) us = omega (arith, count-join ts us)

  -- ---- the trees that are left of a tree from a cell on

  module _ (t : Tree A) (i : ℕ) (lt : i < size t) where
    pub count_passed : count (forest_from t i) ≡ count (forest_from t (i + size (nth_subtree t i))) + 1
    count_passed = omega (arith, ap count (forest_from-node t i lt))

    pub count_opened : count (forest_from t (i + 1)) + 1 ≡ count (forest_from t i) + arity_of (nth_subtree t i)
    count_opened = omega (arith, ap count (forest_from-args t i lt), count-join (args_of (nth_subtree t i)) (forest_from t (i + size (nth_subtree t i))), count_passed)

  pub left_there : (t : Tree A) (i : ℕ) → 0 < count (forest_from t i) → i < size t
  left_there t i some = ⊎_elim (λ below. below) (λ past. absurd (omega (arith, ap count (forest_from-end t i past)))) (cases_lt i (size t))

  pub some_left : (t : Tree A) (i : ℕ) → i < size t → 0 < count (forest_from t i)
  some_left t i lt = omega (arith, count_passed t i lt)

module _ {H : Type 0} where
  -- ---- patterns in the place of variables

  abbrev pub fill_all : Substitution (PatternCell H) → Forest (PatternCell H) → Forest (PatternCell H)
  fill_all θ ps = apply_all θ (map_all_heads cell_over ps)

  count-fill_all : (θ : Substitution (PatternCell H)) (ps : Forest (PatternCell H)) → count (fill_all θ ps) ≡ count ps
  count-fill_all θ empty = refl
  count-fill_all θ (grow p ps) = ap suc (count-fill_all θ ps)

  fill_all-join : (θ : Substitution (PatternCell H)) (ps rs : Forest (PatternCell H)) → fill_all θ (join ps rs) ≡ join (fill_all θ ps) (fill_all θ rs)
  fill_all-join θ empty rs = refl
  fill_all-join θ (grow p ps) rs = ap (grow (fill θ p)) (fill_all-join θ ps rs)

  fill-head : (θ : Substitution (PatternCell H)) (p : Tree (PatternCell H)) (h : H) → head_of p ≡ fixed h → fill θ p ≡ node (fixed h) (fill_all θ (args_of p))
  fill-head θ (node (fixed g) ps) h e = let same : g ≡ h = cc in rw same refl
  fill-head θ (node (variable x) ps) h e = cc
  fill-head θ (node (restricted x class) ps) h e = cc

  -- what is left of the filled pattern from cell i on
  abbrev pub fill_from : Substitution (PatternCell H) → Tree (PatternCell H) → ℕ → Forest (PatternCell H)
  fill_from θ p i = fill_all θ (forest_from p i)

  module _ (θ : Substitution (PatternCell H)) (p : Tree (PatternCell H)) (i : ℕ) (lt : i < size p) where
    pub fill_passes : fill_from θ p i ≡ grow (fill θ (nth_subtree p i)) (fill_from θ p (i + size (nth_subtree p i)))
    fill_passes = ap (fill_all θ) (forest_from-node p i lt)

    pub fill_opens : (h : H) → head_of (nth_subtree p i) ≡ fixed h → OpensTo (fill_from θ p i) (fixed h) (arity_of (nth_subtree p i)) (fill_from θ p (i + 1))
    fill_opens h e = record {
      args = fill_all θ (args_of (nth_subtree p i));
      rest = fill_from θ p (i + size (nth_subtree p i));
      is = fill_passes ∙ ap (λ t. grow t (fill_from θ p (i + size (nth_subtree p i)))) (fill-head θ (nth_subtree p i) h e);
      many = count-fill_all θ (args_of (nth_subtree p i));
      next_is = sym (fill_all-join θ (args_of (nth_subtree p i)) (forest_from p (i + size (nth_subtree p i)))) ∙ ap (fill_all θ) (sym (forest_from-args p i lt));
    }

  -- ---- named parts

  count-all_named : (n : ℕ) (ps : Forest (PatternCell H)) → count (all_named n ps) ≡ count ps
  count-all_named n empty = refl
  count-all_named n (grow p ps) = ap suc (count-all_named (n + size p) ps)

  all_named-join : (n : ℕ) (ps rs : Forest (PatternCell H)) → all_named n (join ps rs) ≡ join (all_named n ps) (all_named (n + total_size ps) rs)
  all_named-join n empty rs = let same : n ≡ n + 0 = omega arith in ap (λ k. all_named k rs) same
  all_named-join n (grow p ps) rs =
      let same : n + size p + total_size ps ≡ n + (size p + total_size ps) = omega arith in
      ap (grow (named n p)) (all_named-join (n + size p) ps rs ∙ ap (λ k. join (all_named (n + size p) ps) (all_named k rs)) same)

  size-args : (p : Tree (PatternCell H)) → size p ≡ total_size (args_of p) + 1
  size-args (node c ps) = omega arith

-- what is left of the named part from cell i on
abbrev pub named_from : ℕ → Tree (PatternCell heads.Head) → ℕ → Forest (PatternCell heads.Head)
named_from n p i = all_named (n + i) (forest_from p i)

pub no_trees : {A : Type 0} (ts : Forest A) → count ts ≡ 0 → ts ≡ empty
no_trees empty e = refl
no_trees (grow t ts) e = absurd (omega arith)

named-root : (k : ℕ) (s : Tree (PatternCell heads.Head)) → arity_in (root_cell s) ≡ arity_of s → named k s ≡ node (named_cell k (root_cell s)).0 (all_named (k + 1) (args_of s))
named-root k (node (fixed h) ps) a = let same : suc k ≡ k + 1 = omega arith in ap (λ m. node (fixed h) (all_named m ps)) same
named-root k (node (variable x) ps) a = let none : ps ≡ empty = no_trees ps (sym a) in rw none refl
named-root k (node (restricted x class) ps) a = let none : ps ≡ empty = no_trees ps (sym a) in rw none refl

named_cell-arity : (k : ℕ) (s : Tree (PatternCell heads.Head)) → arity_in (root_cell s) ≡ arity_of s → arity_of s ≡ (named_cell k (root_cell s)).1
named_cell-arity k (node (fixed h) ps) a = refl
named_cell-arity k (node (variable x) ps) a = sym a
named_cell-arity k (node (restricted x class) ps) a = sym a

module _ (n : ℕ) (p : Tree (PatternCell heads.Head)) (i : ℕ) (lt : i < size p) where
  abbrev here : Tree (PatternCell heads.Head)
  here = nth_subtree p i

  pub named_passes : named_from n p i ≡ grow (named (n + i) (nth_subtree p i)) (named_from n p (i + size (nth_subtree p i)))
  named_passes =
      let same : n + i + size here ≡ n + (i + size here) = omega arith in
      ap (all_named (n + i)) (forest_from-node p i lt) ∙ ap (λ k. grow (named (n + i) here) (all_named k (forest_from p (i + size here)))) same

  pub named_opens : (c : cells.Cell) → c ≡ root_cell (nth_subtree p i) → arity_in c ≡ arity_of (nth_subtree p i) → OpensTo (named_from n p i) (named_cell (n + i) c).0 (named_cell (n + i) c).1 (named_from n p (i + 1))
  named_opens c e a =
      let own : arity_in (root_cell here) ≡ arity_of here = ap arity_in (sym e) ∙ a in
      let after : Forest (PatternCell heads.Head) = forest_from p (i + size here) in
      let again : n + i + 1 + total_size (args_of here) ≡ n + (i + size here) = omega (arith, size-args here) in
      let step : n + i + 1 ≡ n + (i + 1) = omega arith in
      rw e (record {
        args = all_named (n + i + 1) (args_of here);
        rest = named_from n p (i + size here);
        is = named_passes ∙ ap (λ t. grow t (named_from n p (i + size here))) (named-root (n + i) here own);
        many = count-all_named (n + i + 1) (args_of here) ∙ named_cell-arity (n + i) here own;
        next_is =
            ap (λ k. join (all_named (n + i + 1) (args_of here)) (all_named k after)) (sym again)
            ∙ sym (all_named-join (n + i + 1) (args_of here) after)
            ∙ ap (all_named (n + i + 1)) (sym (forest_from-args p i lt))
            ∙ ap (λ k. all_named k (forest_from p (i + 1))) step;
      })

-- names that are moved alike
pub named_cell-moved : (n m i : ℕ) (c d : cells.Cell) → named_cell n c ≡ named_cell m d → named_cell (n + i) c ≡ named_cell (m + i) d
named_cell-moved n m i (cell.Head h a) (cell.Head g b) e = e
named_cell-moved n m i (cell.Head h a) (cell.Var x) e = let f = ap (λ l. l.0) e in cc
named_cell-moved n m i (cell.Head h a) (cell.Class x class) e = let f = ap (λ l. l.0) e in cc
named_cell-moved n m i (cell.Var x) (cell.Head g b) e = let f = ap (λ l. l.0) e in cc
named_cell-moved n m i (cell.Var x) (cell.Var y) e = let f : n ≡ m = let g = ap (λ l. l.0) e in cc in rw f refl
named_cell-moved n m i (cell.Var x) (cell.Class y class) e = let f : n ≡ m = let g = ap (λ l. l.0) e in cc in rw f refl
named_cell-moved n m i (cell.Class x class) (cell.Head g b) e = let f = ap (λ l. l.0) e in cc
named_cell-moved n m i (cell.Class x class) (cell.Var y) e = let f : n ≡ m = let g = ap (λ l. l.0) e in cc in rw f refl
named_cell-moved n m i (cell.Class x class) (cell.Class y other) e = let f : n ≡ m = let g = ap (λ l. l.0) e in cc in rw f refl

pub named_cell-moved_back : (n m i : ℕ) (c d : cells.Cell) → named_cell (n + i) c ≡ named_cell (m + i) d → named_cell n c ≡ named_cell m d
named_cell-moved_back n m i (cell.Head h a) (cell.Head g b) e = e
named_cell-moved_back n m i (cell.Head h a) (cell.Var x) e = let f = ap (λ l. l.0) e in cc
named_cell-moved_back n m i (cell.Head h a) (cell.Class x class) e = let f = ap (λ l. l.0) e in cc
named_cell-moved_back n m i (cell.Var x) (cell.Head g b) e = let f = ap (λ l. l.0) e in cc
named_cell-moved_back n m i (cell.Var x) (cell.Var y) e = let f : n + i ≡ m + i = let g = ap (λ l. l.0) e in cc in let g : n ≡ m = omega arith in rw g refl
named_cell-moved_back n m i (cell.Var x) (cell.Class y class) e = let f : n + i ≡ m + i = let g = ap (λ l. l.0) e in cc in let g : n ≡ m = omega arith in rw g refl
named_cell-moved_back n m i (cell.Class x class) (cell.Head g b) e = let f = ap (λ l. l.0) e in cc
named_cell-moved_back n m i (cell.Class x class) (cell.Var y) e = let f : n + i ≡ m + i = let g = ap (λ l. l.0) e in cc in let g : n ≡ m = omega arith in rw g refl
named_cell-moved_back n m i (cell.Class x class) (cell.Class y other) e = let f : n + i ≡ m + i = let g = ap (λ l. l.0) e in cc in let g : n ≡ m = omega arith in rw g refl

pub pair_same : {A : Type 0} (x y : A × ℕ) → x.0 ≡ y.0 → x.1 ≡ y.1 → x ≡ y
pair_same (a, n) (b, m) e f = rw (e, f) refl

arity_same : (n m : ℕ) (c d : cells.Cell) → named_cell n c ≡ named_cell m d → arity_in c ≡ arity_in d
arity_same n m (cell.Head h a) (cell.Head g b) e = ap (λ l. l.1) e
arity_same n m (cell.Head h a) (cell.Var x) e = let f = ap (λ l. l.0) e in cc
arity_same n m (cell.Head h a) (cell.Class x class) e = let f = ap (λ l. l.0) e in cc
arity_same n m (cell.Var x) (cell.Head g b) e = let f = ap (λ l. l.0) e in cc
arity_same n m (cell.Var x) (cell.Var y) e = refl
arity_same n m (cell.Var x) (cell.Class y class) e = refl
arity_same n m (cell.Class x class) (cell.Head g b) e = let f = ap (λ l. l.0) e in cc
arity_same n m (cell.Class x class) (cell.Var y) e = refl
arity_same n m (cell.Class x class) (cell.Class y other) e = refl

-- ---- two named parts, read side by side

pub record PartsBeside (n : ℕ) (p : Tree (PatternCell heads.Head)) (m : ℕ) (r : Tree (PatternCell heads.Head)) (i : ℕ) : Type 0 where
  pub counts : count (forest_from p i) ≡ count (forest_from r i)
  pub same : (named n p ≡ named m r) ↔ (named_from n p i ≡ named_from m r i)

module _ (n : ℕ) (p : Tree (PatternCell heads.Head)) (m : ℕ) (r : Tree (PatternCell heads.Head)) where
  start_of : (k : ℕ) (q : Tree (PatternCell heads.Head)) → named_from k q 0 ≡ grow (named k q) empty
  start_of k q = let same : k + 0 ≡ k = omega arith in ap (all_named (k + 0)) (forest_from-start q) ∙ ap (λ l. grow (named l q) empty) same

  pub parts_start : PartsBeside n p m r 0
  parts_start = record {
    counts = rw (forest_from-start p, forest_from-start r) refl;
    same = rw (start_of n p, start_of m r) (only_tree (named n p) (named m r));
  }

  module _ (i : ℕ) (is : PartsBeside n p m r i) where
    pub parts_there : i < size p → i < size r
    parts_there lt = left_there r i (omega (arith, is.counts, some_left p i lt))

    pub parts_end : size p ≤ i → named n p ≡ named m r
    parts_end past =
        let none : forest_from p i ≡ empty = forest_from-end p i past in
        let none' : forest_from r i ≡ empty = no_trees (forest_from r i) (sym is.counts ∙ ap count none) in
        is.same.1 (rw (none, none') refl)

    module _ (lt : i < size p) (lt' : i < size r) (c d : cells.Cell) (c_is : c ≡ root_cell (nth_subtree p i)) (d_is : d ≡ root_cell (nth_subtree r i)) (c_arity : arity_in c ≡ arity_of (nth_subtree p i)) (d_arity : arity_in d ≡ arity_of (nth_subtree r i)) where
      opens : OpensTo (named_from n p i) (named_cell (n + i) c).0 (named_cell (n + i) c).1 (named_from n p (i + 1))
      opens = named_opens n p i lt c c_is c_arity

      opens' : OpensTo (named_from m r i) (named_cell (m + i) d).0 (named_cell (m + i) d).1 (named_from m r (i + 1))
      opens' = named_opens m r i lt' d d_is d_arity

      pub parts_differ : (named_cell n c ≡ named_cell m d → ⊥) → named n p ≡ named m r → ⊥
      parts_differ differ e =
          let h = heads_same _ _ _ _ _ _ _ _ opens opens' (is.same.0 e) in
          differ (named_cell-moved_back n m i c d (pair_same (named_cell (n + i) c) (named_cell (m + i) d) h.0 h.1))

      pub parts_on : named_cell n c ≡ named_cell m d → PartsBeside n p m r (i + 1)
      parts_on e =
          let moved = named_cell-moved n m i c d e in
          let both = open_both _ _ _ _ _ _ _ _ opens opens' (ap (λ l. l.0) moved) (ap (λ l. l.1) moved) in
          let arities : arity_of (nth_subtree p i) ≡ arity_of (nth_subtree r i) = sym c_arity ∙ arity_same n m c d e ∙ d_arity in
          record {
            counts = omega (arith, count_opened p i lt, count_opened r i lt', is.counts, arities);
            same = (λ w. both.0 (is.same.0 w), λ w. is.same.1 (both.1 w));
          }

-- ---- the merge, read side by side with the pattern that is filled

module _ {H : Type 0} where
  merge_all-join : (us ps vs rs : Forest (PatternCell H)) → count us ≡ count vs → merge_all (join us ps) (join vs rs) ≡ join (merge_all us vs) (merge_all ps rs)
  merge_all-join empty ps empty rs e = refl
  merge_all-join empty ps (grow v vs) rs e = absurd (omega arith)
  merge_all-join (grow u us) ps empty rs e = absurd (omega arith)
  merge_all-join (grow u us) ps (grow v vs) rs e = ap (grow (merge u v)) (merge_all-join us ps vs rs (omega arith))

  count-merge_all : (us vs : Forest (PatternCell H)) → count us ≡ count vs → count (merge_all us vs) ≡ count us
  count-merge_all empty empty e = refl
  count-merge_all empty (grow v vs) e = absurd (omega arith)
  count-merge_all (grow u us) empty e = absurd (omega arith)
  count-merge_all (grow u us) (grow v vs) e = ap suc (count-merge_all us vs (omega arith))

  -- what is left of the merge from cells i and j on, its first cell with the name n
  abbrev pub merge_from : ℕ → Tree (PatternCell H) → Tree (PatternCell H) → ℕ → ℕ → Forest (PatternCell H)
  merge_from n p r i j = all_named n (merge_all (forest_from p i) (forest_from r j))

  module _ (n : ℕ) (p r : Tree (PatternCell H)) (i j : ℕ) (lt : i < size p) (lt' : j < size r) where
    abbrev s : Tree (PatternCell H)
    s = nth_subtree p i

    abbrev u : Tree (PatternCell H)
    u = nth_subtree r j

    pub merge_passes : merge_from n p r i j ≡ grow (named n (merge s u)) (merge_from (n + size (merge s u)) p r (i + size s) (j + size u))
    merge_passes = rw (forest_from-node p i lt, forest_from-node r j lt') refl

    merge-heads : (h g : H) (q t : Tree (PatternCell H)) → head_of q ≡ fixed h → head_of t ≡ fixed g → merge q t ≡ node (fixed h) (merge_all (args_of q) (args_of t))
    merge-heads h g (node (fixed k) us) (node (fixed l) vs) e f = let same : k ≡ h = cc in rw same refl
    merge-heads h g (node (fixed k) us) (node (variable x) vs) e f = cc
    merge-heads h g (node (fixed k) us) (node (restricted x class) vs) e f = cc
    merge-heads h g (node (variable x) us) t e f = cc
    merge-heads h g (node (restricted x class) us) t e f = cc

    pub merge_opens : (h g : H) → head_of (nth_subtree p i) ≡ fixed h → head_of (nth_subtree r j) ≡ fixed g → arity_of (nth_subtree p i) ≡ arity_of (nth_subtree r j) → OpensTo (merge_from n p r i j) (fixed h) (arity_of (nth_subtree p i)) (merge_from (n + 1) p r (i + 1) (j + 1))
    merge_opens h g e f many =
        let m = merge-heads h g s u e f in
        let rest = merge_from (n + size (merge s u)) p r (i + size s) (j + size u) in
        let inner = merge_all (args_of s) (args_of u) in
        let first : suc n ≡ n + 1 = omega arith in
        let named_is : named n (merge s u) ≡ node (fixed h) (all_named (n + 1) inner) = ap (named n) m ∙ ap (λ k. node (fixed h) (all_named k inner)) first in
        let step : n + size (merge s u) ≡ n + 1 + total_size inner = omega (arith, ap size m) in
        record {
          args = all_named (n + 1) inner;
          rest = rest;
          is = merge_passes ∙ ap (λ t. grow t rest) named_is;
          many = count-all_named (n + 1) inner ∙ count-merge_all (args_of s) (args_of u) many;
          next_is =
              ap (λ k. join (all_named (n + 1) inner) (all_named k (merge_all (forest_from p (i + size s)) (forest_from r (j + size u))))) step
              ∙ sym (all_named-join (n + 1) inner (merge_all (forest_from p (i + size s)) (forest_from r (j + size u))))
              ∙ ap (all_named (n + 1)) (sym (merge_all-join (args_of s) (forest_from p (i + size s)) (args_of u) (forest_from r (j + size u)) many))
              ∙ rw (forest_from-args p i lt, forest_from-args r j lt') refl;
        }

-- the same of parts of two patterns, by the cells of the wholes
module _ (one : Tree (PatternCell heads.Head)) (at : ℕ) (there : at < size one) (other : Tree (PatternCell heads.Head)) (at' : ℕ) (there' : at' < size other) (n m i : ℕ) (is : PartsBeside n (nth_subtree one at) m (nth_subtree other at') i) (here : i < size (nth_subtree one at)) where
  pub whole_there : at' + i < size other
  whole_there = omega (arith, parts_there n (nth_subtree one at) m (nth_subtree other at') i is here, end_within other at' there')

  module _ (c d : cells.Cell) (c_is : c ≡ root_cell (nth_subtree one (at + i))) (d_is : d ≡ root_cell (nth_subtree other (at' + i))) (c_arity : arity_in c ≡ arity_of (nth_subtree one (at + i))) (d_arity : arity_in d ≡ arity_of (nth_subtree other (at' + i))) where
    lt' : i < size (nth_subtree other at')
    lt' = parts_there n (nth_subtree one at) m (nth_subtree other at') i is here

    c_part : nth_subtree one (at + i) ≡ nth_subtree (nth_subtree one at) i
    c_part = nth_subtree-nth_subtree one at i there here

    d_part : nth_subtree other (at' + i) ≡ nth_subtree (nth_subtree other at') i
    d_part = nth_subtree-nth_subtree other at' i there' lt'

    pub whole_differ : (named_cell n c ≡ named_cell m d → ⊥) → named n (nth_subtree one at) ≡ named m (nth_subtree other at') → ⊥
    whole_differ = parts_differ n (nth_subtree one at) m (nth_subtree other at') i is here lt' c d (c_is ∙ ap root_cell c_part) (d_is ∙ ap root_cell d_part) (c_arity ∙ ap arity_of c_part) (d_arity ∙ ap arity_of d_part)

    pub whole_on : named_cell n c ≡ named_cell m d → PartsBeside n (nth_subtree one at) m (nth_subtree other at') (i + 1)
    whole_on = parts_on n (nth_subtree one at) m (nth_subtree other at') i is here lt' c d (c_is ∙ ap root_cell c_part) (d_is ∙ ap root_cell d_part) (c_arity ∙ ap arity_of c_part) (d_arity ∙ ap arity_of d_part)
