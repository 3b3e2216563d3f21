-- The depth of a node: how many nodes before it have it among those below them.
use Rattle.std.proofs.Common.{◌≡◌, ℕ, zero, suc, ◌+◌, ◌-◌, ◌<◌, ◌≤◌, min, List, [], ◌∷◌, ◌++◌, length, map, drop, get_or, refl, sym, ◌∙◌, ap, arith, ⊎_elim, add-one, drop-cons, append_assoc, length-append}
use Rattle.std.proofs.lemmas.List.{length-map, get_or-map, get_or_append_left, get_or-append_right}
use Rattle.std.proofs.lemmas.Bool.{cases_lt}
use Rattle.eq_base.specs.Tree.{Tree, Forest, node, empty, grow, size, total_size, subtrees, all_subtrees, nth_subtree, Position, positions, all_positions, nth_position}
use Rattle.eq_base.proofs.Trees.{length-subtrees}
use Rattle.eq_base.proofs.Positions.{length-positions}

module _ {A : Type 0} where
  -- how many of the trees, each of which begins one node after the one before it, go on past node c
  abbrev pub above : List (Tree A) → ℕ → ℕ
  above ts zero = 0
  above [] (suc c) = 0
  above (t ∷ ts) (suc c) = min 1 (size t - suc c) + above ts c

  above-front : (xs ys : List (Tree A)) (c : ℕ) → c ≤ length xs → above (xs ++ ys) c ≡ above xs c
  above-front xs ys zero h = refl
  above-front [] ys (suc c) h = absurd (omega arith)
  above-front (x ∷ xs) ys (suc c) h = ap (λ n. min 1 (size x - suc c) + n) (above-front xs ys c (omega arith))

  -- no node of a tree goes on past its end
  mutual
    above-past : (t : Tree A) (xs : List (Tree A)) (c n : ℕ) → n ≡ size t + c → above (subtrees t ++ xs) n ≡ above xs c
    above-past (node a args) xs c zero e = absurd (omega (arith, e))
    above-past (node a args) xs c (suc n) e = omega (arith, e, above-all_past args xs c n (omega (arith, e)))

    above-all_past : (ts : Forest A) (xs : List (Tree A)) (c n : ℕ) → n ≡ total_size ts + c → above (all_subtrees ts ++ xs) n ≡ above xs c
    above-all_past empty xs c n e = let same : n ≡ c = omega (arith, e) in ap (above xs) same
    above-all_past (grow t ts) xs c n e =
        ap (λ l. above l n) (append_assoc (subtrees t) (all_subtrees ts) xs)
        ∙ above-past t (all_subtrees ts ++ xs) (total_size ts + c) n (omega (arith, e))
        ∙ above-all_past ts xs c (total_size ts + c) refl

  length-all_positions : (ts : Forest A) → length (all_positions ts) ≡ total_size ts
  length-all_positions empty = refl
  length-all_positions (grow t ts) =
      let first : Position → ℕ × Position = λ q. (0, q) in
      let later : ℕ × Position → ℕ × Position = λ p. (suc p.0, p.1) in
      omega (
        arith,
        length-append (map first (positions t)) (map later (all_positions ts)),
        length-map (positions t) first,
        length-map (all_positions ts) later,
        length-positions t,
        length-all_positions ts,
      )

  mutual
    above-depth : (t : Tree A) (c : ℕ) → c < size t → above (subtrees t) c ≡ length (nth_position t c)
    above-depth (node a args) zero h = refl
    above-depth (node a args) (suc c) h =
        let within : c < length (all_positions args) = omega (arith, length-all_positions args) in
        let p : ℕ × Position = (0, []) in
        omega (
          arith,
          above-all_depth args c p (omega arith),
          ap length (get_or-map (λ (q : ℕ × Position). q.0 ∷ q.1) (all_positions args) c p [] within),
        )

    above-all_depth : (ts : Forest A) (c : ℕ) (d : ℕ × Position) → c < total_size ts → above (all_subtrees ts) c ≡ length (get_or (all_positions ts) c d).1
    above-all_depth empty c d h = absurd (omega arith)
    above-all_depth (grow t ts) c d h =
        let ps : List (ℕ × Position) = map (λ q. (0, q)) (positions t) in
        let qs : List (ℕ × Position) = map (λ p. (suc p.0, p.1)) (all_positions ts) in
        let long : length ps ≡ size t = length-map (positions t) (λ q. (0, q)) ∙ length-positions t in
        ⊎_elim
        (λ less.
        above-front (subtrees t) (all_subtrees ts) c (omega (arith, less, length-subtrees t))
        ∙ above-depth t c less
        ∙ sym (ap (λ (p : ℕ × Position). length p.1) (get_or_append_left ps qs d c (omega (arith, long, less))
        ∙ get_or-map (λ q. (0, q)) (positions t) c [] d (omega (arith, less, length-positions t)))))
        (λ past.
        let m : ℕ = c - size t in
        above-past t (all_subtrees ts) m c (omega (arith, past))
        ∙ above-all_depth ts m d (omega (arith, past, h))
        ∙ sym (ap (λ (p : ℕ × Position). length p.1) (get_or-append_right ps qs (size t) c d long past
        ∙ get_or-map (λ p. (suc p.0, p.1)) (all_positions ts) m d d (omega (arith, past, h, length-all_positions ts)))))
        (cases_lt c (size t))

  above-cons : (t : Tree A) (ts : List (Tree A)) (c n : ℕ) → c ≡ suc n → above (t ∷ ts) c ≡ min 1 (size t - c) + above ts n
  above-cons t ts zero n e = absurd (omega (arith, e))
  above-cons t ts (suc c) n e = let same : c ≡ n = omega (arith, e) in ap (λ k. min 1 (size t - suc c) + above ts k) same

  -- ---- as the code counts them

  module _ (t : Tree A) (c : ℕ) where
    -- so many of the first `at` nodes have node c below them
    pub record IsCounted (at depth : ℕ) : Type 0 where
      pub within : at ≤ c
      pub few : depth ≤ at
      pub rest : depth + above (drop at (subtrees t)) (c - at) ≡ length (nth_position t c)

    pub counted-none : c < size t → IsCounted 0 0
    counted-none inside = record {
      within = omega arith;
      few = omega arith;
      rest = let z : c - 0 ≡ c = omega arith in omega (arith, ap (above (subtrees t)) z, above-depth t c inside);
    }

    next : (at : ℕ) → at < c → c < size t → above (drop at (subtrees t)) (c - at) ≡ min 1 (size (nth_subtree t at) - (c - at)) + above (drop (at + 1) (subtrees t)) (c - (at + 1))
    next at before inside =
        ap (λ l. above l (c - at)) (drop-cons (subtrees t) at t (omega (arith, length-subtrees t)))
        ∙ above-cons (nth_subtree t at) (drop (suc at) (subtrees t)) (c - at) (c - suc at) (omega (arith, before))
        ∙ rw (add-one at) refl

    pub counted-more : (at depth : ℕ) → at < c → c < size t → c < at + size (nth_subtree t at) → IsCounted at depth → IsCounted (at + 1) (depth + 1)
    counted-more at depth before inside on is = record {
      within = omega (arith, before);
      few = omega (arith, is.few);
      rest = omega (arith, before, on, is.rest, next at before inside);
    }

    pub counted-same : (at depth : ℕ) → at < c → c < size t → at + size (nth_subtree t at) ≤ c → IsCounted at depth → IsCounted (at + 1) depth
    counted-same at depth before inside ends is = record {
      within = omega (arith, before);
      few = omega (arith, is.few);
      rest = omega (arith, before, ends, is.rest, next at before inside);
    }

    pub counted-all : (at depth : ℕ) → c ≤ at → IsCounted at depth → depth ≡ length (nth_position t c)
    counted-all at depth past is =
        let none : above (drop at (subtrees t)) (c - at) ≡ 0 = let z : c - at ≡ 0 = omega (arith, past) in ap (above (drop at (subtrees t))) z in
        omega (arith, none, is.rest)
