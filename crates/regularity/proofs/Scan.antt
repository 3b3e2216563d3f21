-- Two patterns read side by side, cell by cell.
use Rattle.std.proofs.Common.{◌≡◌, ℕ, zero, suc, ◌+◌, ◌<◌, ◌≤◌, List, [], ◌∷◌, ◌++◌, Some, ◌⊎◌, refl, sym, ◌∙◌, ap, subst, arith, ⊎_elim, append_assoc}
use Rattle.std.proofs.lemmas.Bool.{cases_lt}
use Rattle.std.proofs.lemmas.List.{append-nil}
use Rattle.std.specs.Prelude.{Contains}
use Rattle.std.specs.List.{AllByRecursion}
use Rattle.std.proofs.lemmas.List.Elements.{Contains-append_right, Contains-append_cases}
use Rattle.eq_base.specs.Tree.{Tree, Forest, node, empty, grow, head_of, args_of, count, size, total_size, nth_subtree, Position, subtree_at, subtree_in, number, number_in, IsBefore}
use Rattle.eq_base.specs.Storing.{join}
use Rattle.eq_base.specs.Pattern.{PatternCell, fixed, variable, restricted}
use Rattle.eq_base.proofs.Lists.{all_push, all_contained}
use Rattle.eq_base.proofs.Trees.{nth_subtree-nth_subtree, end_within}
use Rattle.eq_base.proofs.Scans.{forest_from, forest_from-start, forest_from-node, forest_from-args, forest_from-end}
use Rattle.regularity.specs.Arities.{HasArities, HaveArities, AgreeOnArities}
use Rattle.regularity.specs.Facing.{IsSameHead}
use Rattle.regularity.proofs.Faces.{Face, face, faces, faces-join, faces-grow, faces-no_second, face_of, position_of, faces_from, number_before}

module _ {H : Type 0} where
  count-join : (ps qs : Forest (PatternCell H)) → count (join ps qs) ≡ count ps + count qs
  count-join empty qs = omega arith
  count-join (grow p ps) qs = omega (arith, count-join ps qs)

  size-args : (p : Tree (PatternCell H)) → size p ≡ total_size (args_of p) + 1
  size-args (node c ps) = omega arith

  -- ---- arities

  have_arities-join : (arity : H → ℕ) (ps rs : Forest (PatternCell H)) → HaveArities arity ps → HaveArities arity rs → HaveArities arity (join ps rs)
  have_arities-join arity empty rs a b = b
  have_arities-join arity (grow p ps) rs a b = (a.0, have_arities-join arity ps rs a.1 b)

  arguments_have_arities : (arity : H → ℕ) (p : Tree (PatternCell H)) → HasArities arity p → HaveArities arity (args_of p)
  arguments_have_arities arity (node (fixed h) ps) a = a.1
  arguments_have_arities arity (node (variable x) ps) a = rw a tt
  arguments_have_arities arity (node (restricted x class) ps) a = rw a tt

  pub same_heads_same_counts : (arity : H → ℕ) (p r : Tree (PatternCell H)) → HasArities arity p → HasArities arity r → IsSameHead (head_of p) (head_of r) → count (args_of p) ≡ count (args_of r)
  same_heads_same_counts arity (node (fixed g) ps) (node (fixed h) rs) a b (k, e, e') = let same : g ≡ h = cc in a.0 ∙ ap arity same ∙ sym b.0
  same_heads_same_counts arity (node (fixed g) ps) (node (variable x) rs) a b (k, e, e') = cc
  same_heads_same_counts arity (node (fixed g) ps) (node (restricted x class) rs) a b (k, e, e') = cc
  same_heads_same_counts arity (node (variable x) ps) r a b (k, e, e') = cc
  same_heads_same_counts arity (node (restricted x class) ps) r a b (k, e, e') = cc

  no_head_no_arguments : (arity : H → ℕ) (p : Tree (PatternCell H)) → HasArities arity p → ((g : H) → head_of p ≡ fixed g → ⊥) → args_of p ≡ empty
  no_head_no_arguments arity (node (fixed h) ps) a none = absurd (none h refl)
  no_head_no_arguments arity (node (variable x) ps) a none = a
  no_head_no_arguments arity (node (restricted x class) ps) a none = a

  -- ---- the scan of two patterns

  module _ (p r : Tree (PatternCell H)) where
    abbrev pub whole : List (Face (PatternCell H))
    whole = faces 0 (grow p empty) (grow r empty)

    -- the cells at a position face each other
    face_at : (q : Position) (one other : Tree (PatternCell H)) → subtree_at p q ≡ Some one → subtree_at r q ≡ Some other → Contains whole (face (number p q) (head_of one) (head_of other))
    face_at q one other e e' = face_of 0 (grow p empty) (grow r empty) (face (number p q) (head_of one) (head_of other)) (record { i = 0; q = q; one = one; other = other; one_stands = e; other_stands = e'; is = let same : 0 + number p q ≡ number p q = omega arith in ap (λ n. face n (head_of one) (head_of other)) same })

    -- and cells that face each other are those at a position
    pub record StandsAt (n : ℕ) (c d : PatternCell H) : Type 0 where
      pub at : Position
      pub one : Tree (PatternCell H)
      pub other : Tree (PatternCell H)
      pub one_stands : subtree_at p at ≡ Some one
      pub other_stands : subtree_at r at ≡ Some other
      pub one_is : head_of one ≡ c
      pub other_is : head_of other ≡ d
      pub number_is : number p at ≡ n

    position_at : (n : ℕ) (c d : PatternCell H) → Contains whole (face n c d) → StandsAt n c d
    position_at n c d here = let st = position_of 0 (grow p empty) (grow r empty) (face n c d) here in at_root st.i st.q st.one st.other st.one_stands st.other_stands st.is
      where
        at_root : (i : ℕ) (q : Position) (one other : Tree (PatternCell H)) → subtree_in (grow p empty) i q ≡ Some one → subtree_in (grow r empty) i q ≡ Some other → face (0 + number_in (grow p empty) i q) (head_of one) (head_of other) ≡ face n c d → StandsAt n c d
        at_root zero q one other e e' is = record {
          at = q;
          one = one;
          other = other;
          one_stands = e;
          other_stands = e';
          one_is = ap (λ f. f.one) is;
          other_is = ap (λ f. f.other) is;
          number_is = omega (arith, ap (λ f. f.number) is);
        }
        at_root (suc i) q one other e e' is = absurd (cc)

    -- each face before the cells i and j has the property, and these are next
    pub record IsScanned (P : PatternCell H → PatternCell H → Type 0) (i j : ℕ) : Type 0 where
      pub done : List (Face (PatternCell H))
      pub split : whole ≡ done ++ faces i (forest_from p i) (forest_from r j)
      pub holds : AllByRecursion (λ f. P f.one f.other) done
      pub counts : count (forest_from p i) ≡ count (forest_from r j)
      pub arity : H → ℕ
      pub one : HaveArities arity (forest_from p i)
      pub other : HaveArities arity (forest_from r j)

    module _ (P : PatternCell H → PatternCell H → Type 0) where
      pub scan_start : AgreeOnArities p r → IsScanned P 0 0
      scan_start a = record {
        done = [];
        split = rw (forest_from-start p, forest_from-start r) refl;
        holds = tt;
        counts = rw (forest_from-start p, forest_from-start r) refl;
        arity = a.arity;
        one = rw (forest_from-start p) (a.one, tt);
        other = rw (forest_from-start r) (a.other, tt);
      }

      module _ (i j : ℕ) (is : IsScanned P i j) where
        -- while the second pattern has cells, so has the first
        pub scan_there : j < size r → i < size p
        scan_there lt =
            ⊎_elim (λ below. below)
            (λ past. absurd (omega (arith, is.counts, ap count (forest_from-node r j lt), ap count (forest_from-end p i past))))
            (cases_lt i (size p))

        -- at the end each face has the property
        pub scan_end : size r ≤ j → (q : Position) (one other : Tree (PatternCell H)) → subtree_at p q ≡ Some one → subtree_at r q ≡ Some other → P (head_of one) (head_of other)
        scan_end past q one other e e' =
            let ended : whole ≡ is.done = is.split ∙ ap (λ ts. is.done ++ faces i (forest_from p i) ts) (forest_from-end r j past) ∙ ap (λ fs. is.done ++ fs) (faces-no_second i (forest_from p i)) ∙ append-nil is.done in
            all_contained (λ f. P f.one f.other) is.done (face (number p q) (head_of one) (head_of other)) is.holds (subst (λ fs. Contains fs (face (number p q) (head_of one) (head_of other))) ended (face_at q one other e e'))

        module _ (lt : i < size p) (lt' : j < size r) where
          abbrev s : Tree (PatternCell H)
          s = nth_subtree p i

          abbrev u : Tree (PatternCell H)
          u = nth_subtree r j

          abbrev later : Forest (PatternCell H)
          later = forest_from p (i + size s)

          abbrev later' : Forest (PatternCell H)
          later' = forest_from r (j + size u)

          opened : faces i (forest_from p i) (forest_from r j) ≡ face i (head_of s) (head_of u) ∷ (faces (i + 1) (args_of s) (args_of u) ++ faces (i + size s) later later')
          opened = rw (forest_from-node p i lt, forest_from-node r j lt') (faces-grow i s u later later')

          module _ (here : P (head_of s) (head_of u)) where
            -- the face here is done, and others come next
            moved : (i' j' : ℕ) → faces (i + 1) (args_of s) (args_of u) ++ faces (i + size s) later later' ≡ faces i' (forest_from p i') (forest_from r j') → count (forest_from p i') ≡ count (forest_from r j') → HaveArities is.arity (forest_from p i') → HaveArities is.arity (forest_from r j') → IsScanned P i' j'
            moved i' j' next counts one other = record {
              done = is.done ++ face i (head_of s) (head_of u) ∷ [];
              split = is.split ∙ ap (λ fs. is.done ++ fs) (opened ∙ ap (λ fs. face i (head_of s) (head_of u) ∷ fs) next) ∙ sym (append_assoc is.done (face i (head_of s) (head_of u) ∷ []) (faces i' (forest_from p i') (forest_from r j')));
              holds = all_push (λ f. P f.one f.other) is.done (face i (head_of s) (head_of u)) is.holds here;
              counts = counts;
              arity = is.arity;
              one = one;
              other = other;
            }

            have : HasArities is.arity s × HaveArities is.arity later
            have = subst (HaveArities is.arity) (forest_from-node p i lt) is.one

            have' : HasArities is.arity u × HaveArities is.arity later'
            have' = subst (HaveArities is.arity) (forest_from-node r j lt') is.other

            later_counts : count later ≡ count later'
            later_counts = omega (arith, is.counts, ap count (forest_from-node p i lt), ap count (forest_from-node r j lt'))

            -- at the same head, the arguments come next
            pub scan_down : IsSameHead (head_of s) (head_of u) → IsScanned P (i + 1) (j + 1)
            scan_down same =
                let counts = same_heads_same_counts is.arity s u have.0 have'.0 same in
                let end : i + 1 + total_size (args_of s) ≡ i + size s = omega (arith, size-args s) in
                let joined : faces (i + 1) (args_of s) (args_of u) ++ faces (i + size s) later later' ≡ faces (i + 1) (forest_from p (i + 1)) (forest_from r (j + 1)) =
                rw (forest_from-args p i lt, forest_from-args r j lt', faces-join (i + 1) (args_of s) later (args_of u) later' counts, end) refl in
                moved (i + 1) (j + 1) joined
                (rw (forest_from-args p i lt, forest_from-args r j lt') (omega (arith, count-join (args_of s) later, count-join (args_of u) later', counts, later_counts)))
                (rw (forest_from-args p i lt) (have_arities-join is.arity (args_of s) later (arguments_have_arities is.arity s have.0) have.1))
                (rw (forest_from-args r j lt') (have_arities-join is.arity (args_of u) later' (arguments_have_arities is.arity u have'.0) have'.1))

            -- beside a variable, what comes next is behind both subtrees
            pub scan_past : ((g : H) → head_of s ≡ fixed g → ⊥) ⊎ ((h : H) → head_of u ≡ fixed h → ⊥) → IsScanned P (i + size s) (j + size u)
            scan_past either =
                let nothing : faces (i + 1) (args_of s) (args_of u) ≡ [] =
                ⊎_elim
                (λ none. ap (λ us. faces (i + 1) us (args_of u)) (no_head_no_arguments is.arity s have.0 none))
                (λ none. ap (λ us. faces (i + 1) (args_of s) us) (no_head_no_arguments is.arity u have'.0 none) ∙ faces-no_second (i + 1) (args_of s))
                either in
                moved (i + size s) (j + size u) (ap (λ fs. fs ++ faces (i + size s) later later') nothing) later_counts have.1 have'.1

          here : Contains whole (face i (head_of s) (head_of u))
          here = subst (λ fs. Contains fs (face i (head_of s) (head_of u))) (sym (is.split ∙ ap (λ fs. is.done ++ fs) opened))
              (Contains-append_right is.done (face i (head_of s) (head_of u) ∷ (faces (i + 1) (args_of s) (args_of u) ++ faces (i + size s) later later')) (face i (head_of s) (head_of u)) (0, omega arith, refl))

          -- the position of the cells here
          pub scan_here : StandsAt i (head_of s) (head_of u)
          scan_here = position_at i (head_of s) (head_of u) here

        -- before it each face has the property
        pub scan_before : (at q : Position) (one other : Tree (PatternCell H)) → number p at ≡ i → IsBefore q at → subtree_at p q ≡ Some one → subtree_at r q ≡ Some other → P (head_of one) (head_of other)
        scan_before at q one other n before e e' =
            let f = face (number p q) (head_of one) (head_of other) in
            let less = number_before p q at one e before in
            ⊎_elim
            (λ inside. all_contained (λ f. P f.one f.other) is.done f is.holds inside)
            (λ later. absurd (omega (arith, less, n, faces_from i (forest_from p i) (forest_from r j) f later)))
            (Contains-append_cases is.done (faces i (forest_from p i) (forest_from r j)) f (subst (λ fs. Contains fs f) is.split (face_at q one other e e')))

-- ---- the scan of a part of a pattern, by the numbers of the whole

-- a part of left and another pattern, read up to the cells at and beside
pub record IsScannedAt {H : Type 0} (left : Tree (PatternCell H)) (place : ℕ) (other : Tree (PatternCell H)) (P : PatternCell H → PatternCell H → Type 0) (at beside : ℕ) : Type 0 where
  pub i : ℕ
  pub at_is : at ≡ place + i
  pub scanned : IsScanned (nth_subtree left place) other P i beside

module _ {H : Type 0} (left : Tree (PatternCell H)) (place : ℕ) (there : place < size left) (other : Tree (PatternCell H)) (P : PatternCell H → PatternCell H → Type 0) where
  abbrev part : Tree (PatternCell H)
  part = nth_subtree left place

  pub part_start : AgreeOnArities part other → IsScannedAt left place other P place 0
  part_start a = record { i = 0; at_is = omega arith; scanned = scan_start part other P a }

  module _ (at beside : ℕ) (is : IsScannedAt left place other P at beside) where
    pub part_there : beside < size other → at < size left
    part_there lt = omega (arith, is.at_is, scan_there part other P is.i beside is.scanned lt, end_within left place there)

    pub part_end : size other ≤ beside → (q : Position) (one two : Tree (PatternCell H)) → subtree_at part q ≡ Some one → subtree_at other q ≡ Some two → P (head_of one) (head_of two)
    part_end past = scan_end part other P is.i beside is.scanned past

    pub part_before : (at q : Position) (one two : Tree (PatternCell H)) → number part at ≡ is.i → IsBefore q at → subtree_at part q ≡ Some one → subtree_at other q ≡ Some two → P (head_of one) (head_of two)
    part_before = scan_before part other P is.i beside is.scanned

    module _ (lt : beside < size other) where
      inside : is.i < size part
      inside = scan_there part other P is.i beside is.scanned lt

      cell_is : nth_subtree left at ≡ nth_subtree part is.i
      cell_is = ap (λ n. nth_subtree left n) is.at_is ∙ nth_subtree-nth_subtree left place is.i there inside

      module _ (here : P (head_of (nth_subtree left at)) (head_of (nth_subtree other beside))) where
        here' : P (head_of (nth_subtree part is.i)) (head_of (nth_subtree other beside))
        here' = subst (λ t. P (head_of t) (head_of (nth_subtree other beside))) cell_is here

        pub part_down : IsSameHead (head_of (nth_subtree left at)) (head_of (nth_subtree other beside)) → IsScannedAt left place other P (at + 1) (beside + 1)
        part_down same = record {
          i = is.i + 1;
          at_is = omega (arith, is.at_is);
          scanned = scan_down part other P is.i beside is.scanned inside lt here' (subst (λ t. IsSameHead (head_of t) (head_of (nth_subtree other beside))) cell_is same);
        }

        pub part_past : ((g : H) → head_of (nth_subtree left at) ≡ fixed g → ⊥) ⊎ ((h : H) → head_of (nth_subtree other beside) ≡ fixed h → ⊥) → IsScannedAt left place other P (at + size (nth_subtree left at)) (beside + size (nth_subtree other beside))
        part_past either = record {
          i = is.i + size (nth_subtree part is.i);
          at_is = omega (arith, is.at_is, ap size cell_is);
          scanned = scan_past part other P is.i beside is.scanned inside lt here' (subst (λ t. ((g : H) → head_of t ≡ fixed g → ⊥) ⊎ ((h : H) → head_of (nth_subtree other beside) ≡ fixed h → ⊥)) cell_is either);
        }

      pub part_here : StandsAt part other is.i (head_of (nth_subtree left at)) (head_of (nth_subtree other beside))
      part_here = subst (λ t. StandsAt part other is.i (head_of t) (head_of (nth_subtree other beside))) (sym cell_is) (scan_here part other P is.i beside is.scanned inside lt)
