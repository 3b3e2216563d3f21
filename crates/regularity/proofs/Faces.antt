-- The cells that face each other in two lists of patterns: those at the same positions, in preorder.
use Rattle.std.proofs.Common.{◌≡◌, ℕ, zero, suc, ◌+◌, ◌<◌, ◌≤◌, List, [], ◌∷◌, ◌++◌, Some, refl, ap, subst, arith, ⊎_elim, append_assoc}
use Rattle.std.specs.Prelude.{Contains}
use Rattle.std.proofs.lemmas.List.Elements.{Contains-append_left, Contains-append_right, Contains-append_cases}
use Rattle.eq_base.specs.Tree.{Tree, Forest, node, empty, grow, head_of, args_of, count, size, total_size, Position, subtree_at, subtree_in, number, number_in, IsBefore}
use Rattle.eq_base.specs.Storing.{join}
use Rattle.eq_base.proofs.Numbers.{number_below}

pub contains_first : {X : Type 0} (x : X) (xs : List X) → Contains (x ∷ xs) x
contains_first x xs = (0, omega arith, refl)

pub contains_here : {X : Type 0} (x y : X) → Contains (y ∷ []) x → y ≡ x
contains_here x y (zero, lt, is) = is
contains_here x y (suc k, lt, is) = absurd (omega arith)

-- two cells at the position with a number
pub record Face (A : Type 0) : Type 0 where
  pub number : ℕ
  pub one : A
  pub other : A

module _ {A : Type 0} where
  abbrev pub face : ℕ → A → A → Face A
  face n c d = record { number = n; one = c; other = d }

  -- the first node of the first list has the number n
  abbrev pub faces : ℕ → Forest A → Forest A → List (Face A)
  faces n (grow (node c us) ts) (grow (node d vs) rs) = face n c d ∷ (faces (n + 1) us vs ++ faces (n + 1 + total_size us) ts rs)
  faces n ts rs = []

  pub faces-join : (n : ℕ) (us ts vs rs : Forest A) → count us ≡ count vs → faces n (join us ts) (join vs rs) ≡ faces n us vs ++ faces (n + total_size us) ts rs
  faces-join n empty ts empty rs e = let same : n ≡ n + 0 = omega arith in ap (λ m. faces m ts rs) same
  faces-join n empty ts (grow v vs) rs e = absurd (omega arith)
  faces-join n (grow u us) ts empty rs e = absurd (omega arith)
  faces-join n (grow (node c cs) us) ts (grow (node d ds) vs) rs e =
      let m = n + 1 + total_size cs in
      let rest = faces-join m us ts vs rs (omega arith) in
      let same : m + total_size us ≡ n + total_size (grow (node c cs) us) = omega arith in
      rw (rest, same, append_assoc (faces (n + 1) cs ds) (faces m us vs) (faces (n + total_size (grow (node c cs) us)) ts rs)) refl

  pub faces-grow : (n : ℕ) (t r : Tree A) (ts rs : Forest A) → faces n (grow t ts) (grow r rs) ≡ face n (head_of t) (head_of r) ∷ (faces (n + 1) (args_of t) (args_of r) ++ faces (n + size t) ts rs)
  faces-grow n (node c us) (node d vs) ts rs = let same : n + 1 + total_size us ≡ n + size (node c us) = omega arith in rw same refl

  pub faces-no_second : (n : ℕ) (ts : Forest A) → faces n ts empty ≡ []
  faces-no_second n empty = refl
  faces-no_second n (grow (node c us) ts) = refl

  -- ---- positions

  -- the face is that of the cells at a position
  pub record Stands (n : ℕ) (ts rs : Forest A) (f : Face A) : Type 0 where
    pub i : ℕ
    pub q : Position
    pub one : Tree A
    pub other : Tree A
    pub one_stands : subtree_in ts i q ≡ Some one
    pub other_stands : subtree_in rs i q ≡ Some other
    pub is : face (n + number_in ts i q) (head_of one) (head_of other) ≡ f

  pub face_of : (n : ℕ) (ts rs : Forest A) (f : Face A) → Stands n ts rs f → Contains (faces n ts rs) f
  face_of n ts rs f s = subst (Contains (faces n ts rs)) s.is (at_position n ts rs s.i s.q s.one s.other s.one_stands s.other_stands)
    where
      at_position : (n : ℕ) (ts rs : Forest A) (i : ℕ) (q : Position) (t r : Tree A) → subtree_in ts i q ≡ Some t → subtree_in rs i q ≡ Some r → Contains (faces n ts rs) (face (n + number_in ts i q) (head_of t) (head_of r))
      at_position n empty rs i q t r e e' = absurd (cc)
      at_position n (grow (node c us) ts) empty i q t r e e' = absurd (cc)
      at_position n (grow (node c us) ts) (grow (node d vs) rs) zero [] t r e e' =
          let one : node c us ≡ t = cc in
          let other : node d vs ≡ r = cc in
          let same : n + 0 ≡ n = omega arith in
          rw (same, ← one, ← other) (contains_first (face n c d) (faces (n + 1) us vs ++ faces (n + 1 + total_size us) ts rs))
      at_position n (grow (node c us) ts) (grow (node d vs) rs) zero (j ∷ q) t r e e' =
          let below = at_position (n + 1) us vs j q t r e e' in
          let same : n + 1 + number_in us j q ≡ n + suc (number_in us j q) = omega arith in
          Contains-append_right (face n c d ∷ []) (faces (n + 1) us vs ++ faces (n + 1 + total_size us) ts rs) _
          (Contains-append_left (faces (n + 1) us vs) (faces (n + 1 + total_size us) ts rs) _ (subst (λ k. Contains (faces (n + 1) us vs) (face k (head_of t) (head_of r))) same below))
      at_position n (grow (node c us) ts) (grow (node d vs) rs) (suc i) q t r e e' =
          let after = at_position (n + 1 + total_size us) ts rs i q t r e e' in
          let same : n + 1 + total_size us + number_in ts i q ≡ n + (size (node c us) + number_in ts i q) = omega arith in
          Contains-append_right (face n c d ∷ []) (faces (n + 1) us vs ++ faces (n + 1 + total_size us) ts rs) _
          (Contains-append_right (faces (n + 1) us vs) (faces (n + 1 + total_size us) ts rs) _ (subst (λ k. Contains (faces (n + 1 + total_size us) ts rs) (face k (head_of t) (head_of r))) same after))

  pub position_of : (n : ℕ) (ts rs : Forest A) (f : Face A) → Contains (faces n ts rs) f → Stands n ts rs f
  position_of n empty rs f c = absurd (omega (arith, c.1))
  position_of n (grow (node a us) ts) empty f c = absurd (omega (arith, c.1))
  position_of n (grow (node a us) ts) (grow (node b vs) rs) f c =
      let m = n + 1 + total_size us in
      ⊎_elim
      (λ here. let same : n + 0 ≡ n = omega arith in record { i = 0; q = []; one = node a us; other = node b vs; one_stands = refl; other_stands = refl; is = rw same (contains_here f (face n a b) here) })
      (λ later. ⊎_elim
      (λ below.
      let s = position_of (n + 1) us vs f below in
      let same : n + suc (number_in us s.i s.q) ≡ n + 1 + number_in us s.i s.q = omega arith in
      record { i = 0; q = s.i ∷ s.q; one = s.one; other = s.other; one_stands = s.one_stands; other_stands = s.other_stands; is = rw same s.is })
      (λ after.
      let s = position_of m ts rs f after in
      let same : n + (size (node a us) + number_in ts s.i s.q) ≡ m + number_in ts s.i s.q = omega arith in
      record { i = suc s.i; q = s.q; one = s.one; other = s.other; one_stands = s.one_stands; other_stands = s.other_stands; is = rw same s.is })
      (Contains-append_cases (faces (n + 1) us vs) (faces m ts rs) f later))
      (Contains-append_cases (face n a b ∷ []) (faces (n + 1) us vs ++ faces m ts rs) f c)

  -- no face comes before the first node
  pub faces_from : (n : ℕ) (ts rs : Forest A) (f : Face A) → Contains (faces n ts rs) f → n ≤ f.number
  faces_from n ts rs f c = let s = position_of n ts rs f c in omega (arith, ap (λ g. g.number) s.is)

-- ---- preorder

module _ {A : Type 0} where
  mutual
    -- a position before another has a smaller number
    pub number_before : (t : Tree A) (p q : Position) (s : Tree A) → subtree_at t p ≡ Some s → IsBefore p q → number t p < number t q
    number_before t p [] s e before = absurd before
    number_before (node a us) [] (j ∷ q) s e before = omega arith
    number_before (node a us) (i ∷ p) (j ∷ q) s e before =
        ⊎_elim
        (λ less. omega (arith, number_in_less us i j p q s e less))
        (λ same. let h = number_in_before us i p q s e same.1 in subst (λ k. suc (number_in us i p) < suc (number_in us k q)) same.0 (omega arith))
        before

    number_in_before : (ts : Forest A) (i : ℕ) (p q : Position) (s : Tree A) → subtree_in ts i p ≡ Some s → IsBefore p q → number_in ts i p < number_in ts i q
    number_in_before empty i p q s e before = absurd (cc)
    number_in_before (grow t ts) zero p q s e before = number_before t p q s e before
    number_in_before (grow t ts) (suc i) p q s e before = omega (arith, number_in_before ts i p q s e before)

    number_in_less : (ts : Forest A) (i j : ℕ) (p q : Position) (s : Tree A) → subtree_in ts i p ≡ Some s → i < j → number_in ts i p < number_in ts j q
    number_in_less empty i j p q s e less = absurd (cc)
    number_in_less (grow t ts) i zero p q s e less = absurd (omega arith)
    number_in_less (grow t ts) zero (suc j) p q s e less = omega (arith, number_below t p s e)
    number_in_less (grow t ts) (suc i) (suc j) p q s e less = omega (arith, number_in_less ts i j p q s e (omega arith))
