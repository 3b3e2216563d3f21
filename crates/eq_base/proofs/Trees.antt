-- Trees: their sizes, their subtrees by number, their cells, and trees with other heads.
use Rattle.std.proofs.Common.{◌≡◌, ℕ, zero, suc, ◌+◌, ◌-◌, ◌<◌, ◌≤◌, min, List, [], ◌∷◌, ◌++◌, length, map, drop, get_or, Some, refl, sym, ◌∙◌, ap, subst, arith, ⊎_elim, add-one, append_assoc, length-append}
use Rattle.std.proofs.lemmas.List.{append-nil, drop_at, drop-drop, drop-append-le, get_or-drop, get_or_append_left, get_or_default, get_or-append-add, length-drop, map-append, length-map, get_or-map, same_lists}
use Rattle.std.proofs.lemmas.Bool.{cases_lt}
use Rattle.eq_base.specs.Tree.{Tree, Forest, node, empty, grow, head_of, args_of, arity_of, count, size, total_size, subtrees, all_subtrees, nth_subtree, cells, all_cells, map_heads, map_all_heads, subtree_at, subtree_in}
use Rattle.eq_base.specs.View.{tree_at}
use Rattle.eq_base.specs.declared.head.Head.{Head}
use Rattle.eq_base.specs.Storing.{first_trees, later_trees, first_or, first_size, forest_of, join, forest_of-cells-append}

module _ {T : Type 0} where
  -- ---- lists of trees

  pub join-first_later : (n : ℕ) (ts : Forest T) → join (first_trees n ts) (later_trees n ts) ≡ ts
  join-first_later zero ts = refl
  join-first_later (suc n) empty = refl
  join-first_later (suc n) (grow t ts) = ap (grow t) (join-first_later n ts)

  pub count-first_trees : (n : ℕ) (ts : Forest T) → count (first_trees n ts) ≡ min n (count ts)
  count-first_trees zero ts = omega arith
  count-first_trees (suc n) empty = omega arith
  count-first_trees (suc n) (grow t ts) = omega (arith, count-first_trees n ts)

  pub count-later_trees : (n : ℕ) (ts : Forest T) → count (later_trees n ts) ≡ count ts - n
  count-later_trees zero ts = omega arith
  count-later_trees (suc n) empty = omega arith
  count-later_trees (suc n) (grow t ts) = omega (arith, count-later_trees n ts)

  -- among no trees there is none
  no_tree : (i : ℕ) (t : Tree T) → subtree_in empty i [] ≡ Some t → ⊥
  no_tree i t is = cc

  -- the trees from one of them on begin with it
  pub later_trees-at : (i : ℕ) (ts : Forest T) (t : Tree T) → subtree_in ts i [] ≡ Some t → later_trees i ts ≡ grow t (later_trees (suc i) ts)
  later_trees-at i empty t is = absurd (no_tree i t is)
  later_trees-at zero (grow u us) t is = ap (λ x. grow x us) (cc)
  later_trees-at (suc i) (grow u us) t is = later_trees-at i us t is

  -- no tree stands behind the last
  pub later_trees-count : (n : ℕ) (ts : Forest T) → n ≡ count ts → later_trees n ts ≡ empty
  later_trees-count zero empty n = refl
  later_trees-count zero (grow u us) n = absurd (omega arith)
  later_trees-count (suc n) empty is = refl
  later_trees-count (suc n) (grow u us) is = later_trees-count n us (omega arith)

  -- an argument stands among the arguments
  pub subtree_in-argument : (t : Tree T) (i : ℕ) (u : Tree T) → subtree_at t (i ∷ []) ≡ Some u → subtree_in (args_of t) i [] ≡ Some u
  subtree_in-argument (node a args) i u is = is

  pub total_size-first_more : (n : ℕ) (ts : Forest T) → n < count ts → total_size (first_trees (n + 1) ts) ≡ total_size (first_trees n ts) + first_size (later_trees n ts)
  total_size-first_more zero empty h = absurd (omega arith)
  total_size-first_more zero (grow t ts) h = omega arith
  total_size-first_more (suc n) empty h = absurd (omega arith)
  total_size-first_more (suc n) (grow t ts) h =
      let e : total_size (first_trees (suc n) ts) ≡ total_size (first_trees n ts) + first_size (later_trees n ts) = rw (add-one n) at (total_size-first_more n ts (omega arith)) in
      rw (add-one (suc n)) (omega arith)

  -- ---- sizes

  mutual
    pub length-cells : (t : Tree T) → length (cells t) ≡ size t
    length-cells (node a args) = ap suc (length-all_cells args)

    pub length-all_cells : (ts : Forest T) → length (all_cells ts) ≡ total_size ts
    length-all_cells empty = refl
    length-all_cells (grow t ts) = omega (arith, length-append (cells t) (all_cells ts), length-cells t, length-all_cells ts)

  mutual
    pub length-subtrees : (t : Tree T) → length (subtrees t) ≡ size t
    length-subtrees (node a args) = ap suc (length-all_subtrees args)

    pub length-all_subtrees : (ts : Forest T) → length (all_subtrees ts) ≡ total_size ts
    length-all_subtrees empty = refl
    length-all_subtrees (grow t ts) = omega (arith, length-append (subtrees t) (all_subtrees ts), length-subtrees t, length-all_subtrees ts)

  -- a subtree's cell
  abbrev pub label_of : Tree T → T × ℕ
  label_of t = (head_of t, arity_of t)

  mutual
    pub cells-subtrees : (t : Tree T) → cells t ≡ map label_of (subtrees t)
    cells-subtrees (node a args) = ap (λ l. (a, count args) ∷ l) (all_cells-subtrees args)

    pub all_cells-subtrees : (ts : Forest T) → all_cells ts ≡ map label_of (all_subtrees ts)
    all_cells-subtrees empty = refl
    all_cells-subtrees (grow t ts) =
        rw (cells-subtrees t, all_cells-subtrees ts) (sym (map-append label_of (subtrees t) (all_subtrees ts)))

  pub all_cells-join : (ts us : Forest T) → all_cells (join ts us) ≡ all_cells ts ++ all_cells us
  all_cells-join empty us = refl
  all_cells-join (grow t ts) us = rw (all_cells-join ts us, append_assoc (cells t) (all_cells ts) (all_cells us)) refl

  pub all_cells-split : (n : ℕ) (ts : Forest T) → all_cells ts ≡ all_cells (first_trees n ts) ++ all_cells (later_trees n ts)
  all_cells-split n ts = ap all_cells (sym (join-first_later n ts)) ∙ all_cells-join (first_trees n ts) (later_trees n ts)

  -- ---- subtrees by number

  -- what begins with the subtrees of one of the trees
  record Begins (xs : List (Tree T)) (s : Tree T) : Type 0 where
    rest : List (Tree T)
    split : xs ≡ subtrees s ++ rest

  begins-append : (xs ys : List (Tree T)) (s : Tree T) → Begins xs s → Begins (xs ++ ys) s
  begins-append xs ys s b = record { rest = b.rest ++ ys; split = ap (λ l. l ++ ys) b.split ∙ append_assoc (subtrees s) b.rest ys }

  begins_left : (xs ys : List (Tree T)) (k : ℕ) (d : Tree T) → k < length xs → Begins (drop k xs) (get_or xs k d) → Begins (drop k (xs ++ ys)) (get_or (xs ++ ys) k d)
  begins_left xs ys k d lt b =
      let le : k ≤ length xs = omega arith in
      rw (drop-append-le k xs ys le, get_or_append_left xs ys d k lt) (begins-append (drop k xs) ys (get_or xs k d) b)

  begins_right : (xs ys : List (Tree T)) (n m : ℕ) (d : Tree T) → length xs ≡ n → Begins (drop m ys) (get_or ys m d) → Begins (drop (n + m) (xs ++ ys)) (get_or (xs ++ ys) (n + m) d)
  begins_right xs ys n m d e b =
      let cut : drop n (xs ++ ys) ≡ ys = drop_at xs ys n e in
      let left : drop m ys ≡ drop (n + m) (xs ++ ys) = ap (λ l. drop m l) (sym cut) ∙ drop-drop m n (xs ++ ys) in
      let right : get_or ys m d ≡ get_or (xs ++ ys) (n + m) d = ap (λ l. get_or l m d) (sym cut) ∙ get_or-drop n (xs ++ ys) m d in
      rw (← left, ← right) b

  begins_either : (xs ys : List (Tree T)) (n k : ℕ) (d : Tree T) → length xs ≡ n → (k < n → Begins (drop k xs) (get_or xs k d)) → (k - n < length ys → Begins (drop (k - n) ys) (get_or ys (k - n) d)) → k < n + length ys → Begins (drop k (xs ++ ys)) (get_or (xs ++ ys) k d)
  begins_either xs ys n k d e left right lt =
      ⊎_elim
      (λ below. begins_left xs ys k d (omega arith) (left below))
      (λ past. let again : n + (k - n) ≡ k = omega arith in
      subst (λ j. Begins (drop j (xs ++ ys)) (get_or (xs ++ ys) j d)) again (begins_right xs ys n (k - n) d e (right (omega arith))))
      (cases_lt k n)

  mutual
    begins-at : (t : Tree T) (k : ℕ) (d : Tree T) → k < size t → Begins (drop k (subtrees t)) (get_or (subtrees t) k d)
    begins-at (node a args) zero d lt = record { rest = []; split = ap (λ l. node a args ∷ l) (sym (append-nil (all_subtrees args))) }
    begins-at (node a args) (suc k) d lt = begins-in args k d (omega arith)

    begins-in : (ts : Forest T) (k : ℕ) (d : Tree T) → k < total_size ts → Begins (drop k (all_subtrees ts)) (get_or (all_subtrees ts) k d)
    begins-in empty k d lt = absurd (omega arith)
    begins-in (grow t ts) k d lt =
        begins_either (subtrees t) (all_subtrees ts) (size t) k d (length-subtrees t) (begins-at t k d) (λ h. begins-in ts (k - size t) d (omega (arith, length-all_subtrees ts))) (omega (arith, length-all_subtrees ts))

  -- the subtrees from a node on begin with those of its own tree
  pub subtrees-from : (t : Tree T) (k : ℕ) → k < size t → drop k (subtrees t) ≡ subtrees (nth_subtree t k) ++ drop (k + size (nth_subtree t k)) (subtrees t)
  subtrees-from t k lt =
      let s = nth_subtree t k in
      let b = begins-at t k t lt in
      let after : drop (k + size s) (subtrees t) ≡ b.rest =
      sym (drop-drop (size s) k (subtrees t)) ∙ ap (λ l. drop (size s) l) b.split ∙ drop_at (subtrees s) b.rest (size s) (length-subtrees s) in
      b.split ∙ ap (λ l. subtrees s ++ l) (sym after)

  -- the subtree of a subtree
  pub nth_subtree-nth_subtree : (t : Tree T) (k m : ℕ) → k < size t → m < size (nth_subtree t k) → nth_subtree t (k + m) ≡ nth_subtree (nth_subtree t k) m
  nth_subtree-nth_subtree t k m lt inside =
      let s = nth_subtree t k in
      let within : m < length (subtrees s) = omega (arith, length-subtrees s) in
      sym (get_or-drop k (subtrees t) m t)
      ∙ ap (λ l. get_or l m t) (subtrees-from t k lt)
      ∙ get_or_append_left (subtrees s) (drop (k + size s) (subtrees t)) t m within
      ∙ get_or_default (subtrees s) m t s within

  -- a subtree lies within the tree
  pub end_within : (t : Tree T) (k : ℕ) → k < size t → k + size (nth_subtree t k) ≤ size t
  end_within t k lt =
      let s = nth_subtree t k in
      omega (arith, ap length (begins-at t k t lt).split, length-append (subtrees s) (begins-at t k t lt).rest, length-drop k (subtrees t), length-subtrees s, length-subtrees t)

  -- ---- arguments

  subtree_in-nth : (ts : Forest T) (i : ℕ) (d : Tree T) → i < count ts → subtree_in ts i [] ≡ Some (get_or (all_subtrees ts) (total_size (first_trees i ts)) d)
  subtree_in-nth empty i d lt = absurd (omega arith)
  subtree_in-nth (grow (node a args) ts) zero d lt = refl
  subtree_in-nth (grow t ts) (suc i) d lt =
      rw (← length-subtrees t, get_or-append-add (subtrees t) (all_subtrees ts) (total_size (first_trees i ts)) d) (subtree_in-nth ts i d (omega arith))

  first_size-later_trees : (ts : Forest T) (i : ℕ) (d : Tree T) → i < count ts → first_size (later_trees i ts) ≡ size (get_or (all_subtrees ts) (total_size (first_trees i ts)) d)
  first_size-later_trees empty i d lt = absurd (omega arith)
  first_size-later_trees (grow (node a args) ts) zero d lt = refl
  first_size-later_trees (grow t ts) (suc i) d lt =
      rw (← length-subtrees t, get_or-append-add (subtrees t) (all_subtrees ts) (total_size (first_trees i ts)) d) (first_size-later_trees ts i d (omega arith))

  total_size-first_trees : (i : ℕ) (ts : Forest T) → i < count ts → total_size (first_trees i ts) < total_size ts
  total_size-first_trees i empty lt = absurd (omega arith)
  total_size-first_trees zero (grow (node a args) ts) lt = omega arith
  total_size-first_trees (suc i) (grow t ts) lt = omega (arith, total_size-first_trees i ts (omega arith))

  get_or-args : (s : Tree T) (m : ℕ) (d : Tree T) → get_or (subtrees s) (m + 1) d ≡ get_or (all_subtrees (args_of s)) m d
  get_or-args (node a args) m d = rw (add-one m) refl

  size-args : (s : Tree T) → size s ≡ total_size (args_of s) + 1
  size-args (node a args) = omega arith

  subtree_at-arg : (s : Tree T) (i : ℕ) → subtree_at s (i ∷ []) ≡ subtree_in (args_of s) i []
  subtree_at-arg (node a args) i = refl

  -- the number of the i-th argument of a node
  abbrev pub argument_of : Tree T → ℕ → ℕ → ℕ
  argument_of t k i = k + 1 + total_size (first_trees i (args_of (nth_subtree t k)))

  module _ (t : Tree T) (k i : ℕ) (lt : k < size t) (there : i < arity_of (nth_subtree t k)) where
    nth_subtree-argument_of : nth_subtree t (argument_of t k i) ≡ get_or (all_subtrees (args_of (nth_subtree t k))) (total_size (first_trees i (args_of (nth_subtree t k)))) (nth_subtree t k)
    nth_subtree-argument_of =
        let s = nth_subtree t k in
        let m = total_size (first_trees i (args_of s)) in
        let inside : m + 1 < size s = omega (arith, size-args s, total_size-first_trees i (args_of s) there) in
        let e : argument_of t k i ≡ k + (m + 1) = omega arith in
        ap (nth_subtree t) e ∙ nth_subtree-nth_subtree t k (m + 1) lt inside ∙ get_or-args s m s

    pub argument_of-within : argument_of t k i < size t
    argument_of-within =
        let s = nth_subtree t k in
        omega (arith, size-args s, total_size-first_trees i (args_of s) there, end_within t k lt)

    pub subtree_at-argument_of : subtree_at (nth_subtree t k) (i ∷ []) ≡ Some (nth_subtree t (argument_of t k i))
    subtree_at-argument_of =
        let s = nth_subtree t k in
        subtree_at-arg s i ∙ subtree_in-nth (args_of s) i s there ∙ ap Some (sym nth_subtree-argument_of)

    pub argument_of-more : argument_of t k i + size (nth_subtree t (argument_of t k i)) ≡ k + 1 + total_size (first_trees (i + 1) (args_of (nth_subtree t k)))
    argument_of-more =
        let s = nth_subtree t k in
        omega (arith, total_size-first_more i (args_of s) there, first_size-later_trees (args_of s) i s there, ap size nth_subtree-argument_of)

  -- ---- equal trees

  pub forest_of-cells : (t : Tree T) → forest_of (cells t) ≡ grow t empty
  forest_of-cells t = ap forest_of (sym (append-nil (cells t))) ∙ forest_of-cells-append t []

  pub cells-injective : (t u : Tree T) → cells t ≡ cells u → t ≡ u
  cells-injective t u e =
      ap (first_or (head_of t)) (sym (forest_of-cells t) ∙ ap forest_of e ∙ forest_of-cells u)

  -- two trees of the same size with the same cells
  pub same_cells : (t u : Tree T) → size t ≡ size u → ((k : ℕ) → k < size t → label_of (nth_subtree t k) ≡ label_of (nth_subtree u k)) → t ≡ u
  same_cells t u e same =
      let long = length-map (subtrees t) label_of in
      let long' = length-map (subtrees u) label_of in
      cells-injective t u
      (cells-subtrees t
      ∙ same_lists (map label_of (subtrees t)) (map label_of (subtrees u)) (omega (arith, long, long', length-subtrees t, length-subtrees u))
      (λ k d lt.
      let below : k < size t = omega (arith, long, length-subtrees t) in
      let within : k < length (subtrees t) = omega (arith, length-subtrees t) in
      let within' : k < length (subtrees u) = omega (arith, length-subtrees u) in
      get_or-map label_of (subtrees t) k t d within ∙ same k below ∙ sym (get_or-map label_of (subtrees u) k u d within'))
      ∙ sym (cells-subtrees u))

-- ---- trees with other heads

module _ {A B : Type 0} (f : A → B) where
  pub count-map_all_heads : (ts : Forest A) → count (map_all_heads f ts) ≡ count ts
  count-map_all_heads empty = refl
  count-map_all_heads (grow t ts) = ap suc (count-map_all_heads ts)

  mutual
    pub size-map_heads : (t : Tree A) → size (map_heads f t) ≡ size t
    size-map_heads (node a args) = ap suc (total_size-map_all_heads args)

    total_size-map_all_heads : (ts : Forest A) → total_size (map_all_heads f ts) ≡ total_size ts
    total_size-map_all_heads empty = refl
    total_size-map_all_heads (grow t ts) = omega (arith, size-map_heads t, total_size-map_all_heads ts)

  mutual
    pub subtrees-map_heads : (t : Tree A) → subtrees (map_heads f t) ≡ map (map_heads f) (subtrees t)
    subtrees-map_heads (node a args) = ap (λ l. node (f a) (map_all_heads f args) ∷ l) (all_subtrees-map_all_heads args)

    all_subtrees-map_all_heads : (ts : Forest A) → all_subtrees (map_all_heads f ts) ≡ map (map_heads f) (all_subtrees ts)
    all_subtrees-map_all_heads empty = refl
    all_subtrees-map_all_heads (grow t ts) =
        rw (subtrees-map_heads t, all_subtrees-map_all_heads ts) (sym (map-append (map_heads f) (subtrees t) (all_subtrees ts)))

  abbrev mapped : A × ℕ → B × ℕ
  mapped c = (f c.0, c.1)

  mutual
    pub cells-map_heads : (t : Tree A) → cells (map_heads f t) ≡ map mapped (cells t)
    cells-map_heads (node a args) = rw (count-map_all_heads args, all_cells-map_all_heads args) refl

    all_cells-map_all_heads : (ts : Forest A) → all_cells (map_all_heads f ts) ≡ map mapped (all_cells ts)
    all_cells-map_all_heads empty = refl
    all_cells-map_all_heads (grow t ts) =
        rw (cells-map_heads t, all_cells-map_all_heads ts) (sym (map-append mapped (cells t) (all_cells ts)))

  pub nth_subtree-map_heads : (t : Tree A) (k : ℕ) → k < size t → nth_subtree (map_heads f t) k ≡ map_heads f (nth_subtree t k)
  nth_subtree-map_heads t k lt =
      let within : k < length (subtrees t) = omega (arith, length-subtrees t) in
      ap (λ l. get_or l k (map_heads f t)) (subtrees-map_heads t) ∙ get_or-map (map_heads f) (subtrees t) k t (map_heads f t) within

-- the first node of a tree is the tree
pub first_node : (t : Tree Head) → tree_at (subtrees t) 0 ≡ t
first_node (node h args) = refl

pub some_node : (t : Tree Head) → 0 < length (subtrees t)
some_node (node h args) = omega arith
