-- The ends of subtrees in a vector of cells.
use Rattle.std.proofs.Common.{◌≡◌, ℕ, zero, suc, ◌+◌, ◌<◌, ◌≤◌, List, [], ◌∷◌, ◌++◌, length, drop, set, get_or, refl, sym, ◌∙◌, ap, subst, arith, ⊎_elim}
use Rattle.std.proofs.lemmas.List.{drop_at, drop_all, drop-drop, drop_more, map-set, length-map, get_or-map, get_or-set_same, get_or-set_other, length-set}
use Rattle.std.proofs.lemmas.Bool.{cases_lt, cases_eq}
use Rattle.eq_base.specs.Tree.{count, total_size, all_cells}
use Rattle.eq_base.specs.Storing.{first_trees, later_trees, forest_of, first_size, forest_of-all_cells}
use Rattle.eq_base.specs.Preorder.{labels, ends, IsWhole, end_at, EndsFrom}
use Rattle.eq_base.specs.declared.preorder.Node.{Node}
use Rattle.eq_base.proofs.Trees.{all_cells-split, count-first_trees, count-later_trees, length-all_cells, total_size-first_more}

module _ {T : Type 0} where
  -- a list of cells is whole from each cell on
  IsWhole-tail : (c : T × ℕ) (cs : List (T × ℕ)) → IsWhole (c ∷ cs) → IsWhole cs
  IsWhole-tail c cs h = all_cells-split c.1 (forest_of cs) ∙ ap (λ l. drop 1 l) h

  pub IsWhole-drop : (k : ℕ) (ls : List (T × ℕ)) → IsWhole ls → IsWhole (drop k ls)
  IsWhole-drop zero ls h = h
  IsWhole-drop (suc k) [] h = refl
  IsWhole-drop (suc k) (c ∷ cs) h = IsWhole-drop k cs (IsWhole-tail c cs h)

  abbrev first_arity : List (T × ℕ) → ℕ
  first_arity [] = 0
  first_arity (c ∷ cs) = c.1

  IsWhole-count : (c : T × ℕ) (cs : List (T × ℕ)) → IsWhole (c ∷ cs) → c.1 ≤ count (forest_of cs)
  IsWhole-count c cs h =
      let e : count (first_trees c.1 (forest_of cs)) ≡ c.1 = ap first_arity h in
      omega (arith, count-first_trees c.1 (forest_of cs))

  -- what begins after the first n trees
  forest_of-drop : (n : ℕ) (ls : List (T × ℕ)) → IsWhole ls → forest_of (drop (total_size (first_trees n (forest_of ls))) ls) ≡ later_trees n (forest_of ls)
  forest_of-drop n ls h =
      let ts = forest_of ls in
      let e : ls ≡ all_cells (first_trees n ts) ++ all_cells (later_trees n ts) = sym h ∙ all_cells-split n ts in
      let d : drop (total_size (first_trees n ts)) ls ≡ all_cells (later_trees n ts) =
      ap (λ l. drop (total_size (first_trees n ts)) l) e ∙ drop_at (all_cells (first_trees n ts)) (all_cells (later_trees n ts)) (total_size (first_trees n ts)) (length-all_cells (first_trees n ts)) in
      ap forest_of d ∙ forest_of-all_cells (later_trees n ts)

  -- what begins after the first n trees from s on
  forest_of-next : (ls : List (T × ℕ)) (s n : ℕ) → IsWhole ls → forest_of (drop (s + total_size (first_trees n (forest_of (drop s ls)))) ls) ≡ later_trees n (forest_of (drop s ls))
  forest_of-next ls s n h =
      ap forest_of (sym (drop-drop (total_size (first_trees n (forest_of (drop s ls)))) s ls)) ∙ forest_of-drop n (drop s ls) (IsWhole-drop s ls h)

  -- the n-th tree from s on begins in the list
  pub next_below : (ls : List (T × ℕ)) (s n : ℕ) → IsWhole ls → n < count (forest_of (drop s ls)) → s + total_size (first_trees n (forest_of (drop s ls))) < length ls
  next_below ls s n h lt =
      let p : ℕ = s + total_size (first_trees n (forest_of (drop s ls))) in
      let some : 0 < count (later_trees n (forest_of (drop s ls))) = omega (arith, count-later_trees n (forest_of (drop s ls))) in
      ⊎_elim (λ below. below)
      (λ past. absurd (let none : count (forest_of (drop p ls)) ≡ 0 = ap (λ l. count (forest_of l)) (drop_all p ls past) in
      omega (arith, ap count (forest_of-next ls s n h))))
      (cases_lt p (length ls))

  -- the end of that tree is where the next one begins
  pub end_at-next : (ls : List (T × ℕ)) (s n : ℕ) → IsWhole ls → n < count (forest_of (drop s ls)) → end_at ls (s + total_size (first_trees n (forest_of (drop s ls)))) ≡ s + total_size (first_trees (n + 1) (forest_of (drop s ls)))
  end_at-next ls s n h lt =
      omega (arith, ap first_size (forest_of-next ls s n h), total_size-first_more n (forest_of (drop s ls)) lt)

  labels-drop_more : (nodes : List (Node T)) (at : ℕ) (d : Node T) → at < length nodes → drop at (labels nodes) ≡ ((get_or nodes at d).item, (get_or nodes at d).arity) ∷ drop (at + 1) (labels nodes)
  labels-drop_more nodes at d lt =
      let label : Node T → T × ℕ = λ n. (n.item, n.arity) in
      let here = get_or-map label nodes at d (d.item, d.arity) lt in
      let below : at < length (labels nodes) = omega (arith, length-map nodes label) in
      drop_more (labels nodes) at (d.item, d.arity) below ∙ ap (λ l. l ∷ drop (at + 1) (labels nodes)) here

  -- a cell asks for no more trees than there are
  pub arity_there : (nodes : List (Node T)) (at : ℕ) (d : Node T) → IsWhole (labels nodes) → at < length nodes → (get_or nodes at d).arity ≤ count (forest_of (drop (at + 1) (labels nodes)))
  arity_there nodes at d h lt =
      IsWhole-count ((get_or nodes at d).item, (get_or nodes at d).arity) (drop (at + 1) (labels nodes)) (subst IsWhole (labels-drop_more nodes at d lt) (IsWhole-drop at (labels nodes) h))

  -- the end of a cell is that of its last argument
  pub end_at-args : (nodes : List (Node T)) (at : ℕ) (d : Node T) → at < length nodes → end_at (labels nodes) at ≡ at + 1 + total_size (first_trees (get_or nodes at d).arity (forest_of (drop (at + 1) (labels nodes))))
  end_at-args nodes at d lt =
      omega (arith, ap (λ l. first_size (forest_of l)) (labels-drop_more nodes at d lt))

  -- one more end that is right
  pub labels-set_end : (nodes : List (Node T)) (at e : ℕ) (d : Node T) → labels (set nodes at (record { item = (get_or nodes at d).item; arity = (get_or nodes at d).arity; end = e })) ≡ labels nodes
  labels-set_end [] at e d = refl
  labels-set_end (n ∷ ns) zero e d = refl
  labels-set_end (n ∷ ns) (suc at) e d = ap (λ l. (n.item, n.arity) ∷ l) (labels-set_end ns at e d)

  pub EndsFrom-set_end : (nodes : List (Node T)) (at e : ℕ) (d : Node T) → at < length nodes → EndsFrom (at + 1) nodes → e ≡ end_at (labels nodes) at → EndsFrom at (set nodes at (record { item = (get_or nodes at d).item; arity = (get_or nodes at d).arity; end = e }))
  EndsFrom-set_end nodes at e d lt h is =
      let m : Node T = record { item = (get_or nodes at d).item; arity = (get_or nodes at d).arity; end = e } in
      λ k le below.
      let below' : k < length nodes = omega (arith, length-set nodes at m) in
      let written : ends (set nodes at m) ≡ set (ends nodes) at e = map-set (λ (n : Node T). n.end) nodes at m in
      let within : at < length (ends nodes) = omega (arith, length-map nodes (λ (n : Node T). n.end)) in
      rw (labels-set_end nodes at e d, written)
      (⊎_elim
      (λ same. rw same (get_or-set_same (ends nodes) at e 0 within ∙ is))
      (λ other. get_or-set_other (ends nodes) at k e 0 other ∙ h k (omega arith) below')
      (cases_eq k at))

  pub end_read : (nodes : List (Node T)) (n k : ℕ) (d : Node T) → EndsFrom n nodes → n ≤ k → k < length nodes → (get_or nodes k d).end ≡ end_at (labels nodes) k
  end_read nodes n k d h le lt = sym (get_or-map (λ (n : Node T). n.end) nodes k d 0 lt) ∙ h k le lt

  pub length-labels : (nodes : List (Node T)) → length (labels nodes) ≡ length nodes
  length-labels nodes = let label : Node T → T × ℕ = λ n. (n.item, n.arity) in length-map nodes label
