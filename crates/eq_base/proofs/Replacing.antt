-- Replacing a subtree: the cells of the tree afterwards.
use Rattle.std.proofs.Common.{◌≡◌, ℕ, zero, suc, ◌+◌, ◌-◌, ◌<◌, List, [], ◌∷◌, ◌++◌, length, map, take, drop, get_or, Some, refl, sym, ◌∙◌, ap, subst, arith, append_assoc, length-append}
use Rattle.std.specs.List.{range_with_len}
use Rattle.std.proofs.lemmas.List.{map-append, get_or-map, take_at, drop_at, drop-drop, append-nil}
use Rattle.std.proofs.lemmas.List.FromFn.{get_or-range_with_len}
use Rattle.eq_base.specs.Tree.{Tree, Forest, node, empty, grow, count, size, total_size, nth_subtree, Position, positions, all_positions, nth_position, number, number_in, subtree_at, subtree_in, replace_at, replace_in, cells, all_cells}
use Rattle.eq_base.specs.Building.{missing_from, missing_of}
use Rattle.eq_base.specs.Preorder.{Completes}
use Rattle.eq_base.proofs.Trees.{length-cells}
use Rattle.eq_base.proofs.Positions.{map-map, length-positions, subtree_at-nth_position}

range-append : (m a b : ℕ) → range_with_len m (a + b) ≡ range_with_len m a ++ range_with_len (m + a) b
range-append m zero b =
    let e : 0 + b ≡ b = omega arith in
    let f : m + 0 ≡ m = omega arith in
    rw (e, f) refl
range-append m (suc a) b =
    let e : suc a + b ≡ suc (a + b) = omega arith in
    let f : m + 1 + a ≡ m + suc a = omega arith in
    rw e (ap (λ l. m ∷ l) (range-append (m + 1) a b ∙ ap (λ k. range_with_len (m + 1) a ++ range_with_len k b) f))

module _ {A : Type 0} where
  -- ---- the number of a position

  abbrev numbered : ℕ → Tree A → Position → ℕ
  numbered m t q = m + number t q

  abbrev numbered_in : ℕ → Forest A → ℕ × Position → ℕ
  numbered_in m ts p = m + number_in ts p.0 p.1

  mutual
    numbers : (m : ℕ) (t : Tree A) → map (numbered m t) (positions t) ≡ range_with_len m (size t)
    numbers m (node a args) =
        let f : m + 0 ≡ m = omega arith in
        rw f (ap (λ l. m ∷ l) (map-map (numbered m (node a args)) (λ p. p.0 ∷ p.1) (numbered_in (m + 1) args) (all_positions args) (λ p. omega arith) ∙ numbers_in (m + 1) args))

    numbers_in : (m : ℕ) (ts : Forest A) → map (numbered_in m ts) (all_positions ts) ≡ range_with_len m (total_size ts)
    numbers_in m empty = refl
    numbers_in m (grow t ts) =
        map-append (numbered_in m (grow t ts)) (map (λ q. (0, q)) (positions t)) (map (λ p. (suc p.0, p.1)) (all_positions ts))
        ∙ rw (
          map-map (numbered_in m (grow t ts)) (λ q. (0, q)) (numbered m t) (positions t) (λ q. refl),
          map-map (numbered_in m (grow t ts)) (λ p. (suc p.0, p.1)) (numbered_in (m + size t) ts) (all_positions ts) (λ p. omega arith),
          numbers m t,
          numbers_in (m + size t) ts,
        )
        (sym (range-append m (size t) (total_size ts)))

  pub number-nth_position : (t : Tree A) (k : ℕ) → k < size t → number t (nth_position t k) ≡ k
  number-nth_position t k lt =
      let within : k < length (positions t) = omega (arith, length-positions t) in
      let e = sym (get_or-map (numbered 0 t) (positions t) k [] 0 within) ∙ ap (λ l. get_or l k 0) (numbers 0 t) ∙ get_or-range_with_len 0 (size t) k 0 lt in
      omega (arith, e)

  -- ---- the cells around a position

  record Around (cs : List (A × ℕ)) (here : List (A × ℕ)) (n : ℕ) (replaced : Tree A → List (A × ℕ)) : Type 0 where
    before : List (A × ℕ)
    after : List (A × ℕ)
    split : cs ≡ before ++ (here ++ after)
    long : length before ≡ n
    other : (v : Tree A) → replaced v ≡ before ++ (cells v ++ after)

  count-replace_in : (ts : Forest A) (i : ℕ) (q : Position) (v : Tree A) → count (replace_in ts i q v) ≡ count ts
  count-replace_in empty i q v = refl
  count-replace_in (grow t ts) zero q v = refl
  count-replace_in (grow t ts) (suc i) q v = ap suc (count-replace_in ts i q v)

  mutual
    around : (t : Tree A) (q : Position) (s : Tree A) → subtree_at t q ≡ Some s → Around (cells t) (cells s) (number t q) (λ v. cells (replace_at t q v))
    around (node a args) [] s h = record {
      before = [];
      after = [];
      split = (let e : node a args ≡ s = cc in ap cells e) ∙ sym (append-nil (cells s));
      long = refl;
      other = λ v. sym (append-nil (cells v));
    }
    around (node a args) (i ∷ q) s h =
        let r = around_in args i q s h in
        record {
          before = (a, count args) ∷ r.before;
          after = r.after;
          split = ap (λ l. (a, count args) ∷ l) r.split;
          long = ap suc r.long;
          other = λ v. rw (count-replace_in args i q v) (ap (λ l. (a, count args) ∷ l) (r.other v));
        }

    around_in : (ts : Forest A) (i : ℕ) (q : Position) (s : Tree A) → subtree_in ts i q ≡ Some s → Around (all_cells ts) (cells s) (number_in ts i q) (λ v. all_cells (replace_in ts i q v))
    around_in empty i q s h = cc
    around_in (grow t ts) zero q s h =
        let r = around t q s h in
        record {
          before = r.before;
          after = r.after ++ all_cells ts;
          split = rw r.split (append_assoc r.before (cells s ++ r.after) (all_cells ts) ∙ ap (λ l. r.before ++ l) (append_assoc (cells s) r.after (all_cells ts)));
          long = r.long;
          other = λ v. rw (r.other v) (append_assoc r.before (cells v ++ r.after) (all_cells ts) ∙ ap (λ l. r.before ++ l) (append_assoc (cells v) r.after (all_cells ts)));
        }
    around_in (grow t ts) (suc i) q s h =
        let r = around_in ts i q s h in
        record {
          before = cells t ++ r.before;
          after = r.after;
          split = rw r.split (sym (append_assoc (cells t) r.before (cells s ++ r.after)));
          long = omega (arith, length-append (cells t) r.before, length-cells t, r.long);
          other = λ v. rw (r.other v) (sym (append_assoc (cells t) r.before (cells v ++ r.after)));
        }

  pub cells-replace_at : (t : Tree A) (k : ℕ) (v : Tree A) → k < size t → cells (replace_at t (nth_position t k) v) ≡ take k (cells t) ++ (cells v ++ drop (k + size (nth_subtree t k)) (cells t))
  cells-replace_at t k v lt =
      let s = nth_subtree t k in
      let r = around t (nth_position t k) s (subtree_at-nth_position t k lt) in
      let long : length r.before ≡ k = r.long ∙ number-nth_position t k lt in
      let front : take k (cells t) ≡ r.before = ap (take k) r.split ∙ take_at r.before (cells s ++ r.after) k long in
      let back : drop (k + size s) (cells t) ≡ r.after =
      ap (drop (k + size s)) r.split
      ∙ sym (drop-drop (size s) k (r.before ++ (cells s ++ r.after)))
      ∙ ap (drop (size s)) (drop_at r.before (cells s ++ r.after) k long)
      ∙ drop_at (cells s) r.after (size s) (length-cells s) in
      r.other v ∙ rw (front, back) refl

  -- ---- a tree's cells, one after another

  completes_on : (n : ℕ) (cs : List (A × ℕ)) (c : A × ℕ) (ds : List (A × ℕ)) → Completes n (cs ++ c ∷ ds) → 0 < missing_from n cs
  completes_on n [] c ds h = h.0
  completes_on n (b ∷ cs) c ds h = completes_on (n - 1 + b.1) cs c ds h.1

  completes_none : (n : ℕ) (cs : List (A × ℕ)) → Completes n cs → missing_from n cs ≡ 0
  completes_none n [] h = h
  completes_none n (c ∷ cs) h = completes_none (n - 1 + c.1) cs h.1

  mutual
    completes-cells : (t : Tree A) (n : ℕ) (rest : List (A × ℕ)) → Completes n rest → Completes (suc n) (cells t ++ rest)
    completes-cells (node a args) n rest h =
        let e : suc n - 1 + count args ≡ count args + n = omega arith in
        (omega arith, rw e (completes-all_cells args n rest h))

    completes-all_cells : (ts : Forest A) (n : ℕ) (rest : List (A × ℕ)) → Completes n rest → Completes (count ts + n) (all_cells ts ++ rest)
    completes-all_cells empty n rest h = let e : 0 + n ≡ n = omega arith in rw e h
    completes-all_cells (grow t ts) n rest h =
        let e : suc (count ts) + n ≡ suc (count ts + n) = omega arith in
        rw (append_assoc (cells t) (all_cells ts) rest, e) (completes-cells t (count ts + n) (all_cells ts ++ rest) (completes-all_cells ts n rest h))

  completes : (t : Tree A) → Completes 1 (cells t)
  completes t = subst (Completes 1) (append-nil (cells t)) (completes-cells t 0 [] refl)

  -- before each cell of a tree a tree is missing
  pub missing_before : (t : Tree A) (cs : List (A × ℕ)) (c : A × ℕ) (ds : List (A × ℕ)) → cells t ≡ cs ++ c ∷ ds → 0 < missing_of cs
  missing_before t cs c ds e = completes_on 1 cs c ds (subst (Completes 1) e (completes t))

  pub missing_of-cells : (t : Tree A) → missing_of (cells t) ≡ 0
  missing_of-cells t = completes_none 1 (cells t) (completes t)
