-- Item sets as matchers: what the items ask for is what the matcher does next.
use Rattle.std.proofs.Common.{◌≡◌, ℕ, suc, ◌+◌, ◌<◌, ◌≤◌, List, Bool, true, false, cond, ◌⊎◌, inl, inr, Option, Some, None, refl, sym, ◌∙◌, ap, subst, arith, ⊎_elim}
use Rattle.std.specs.Prelude.{◌↔◌, IsTrue, slice_get}
use Rattle.std.proofs.lemmas.Bool.{cases_lt, eq-eqb}
use Rattle.eq_base.specs.Tree.{Tree, Forest, node, empty, grow, head_of, args_of, arity_of, count, size, total_size, nth_subtree}
use Rattle.eq_base.specs.Storing.{join as append}
use Rattle.eq_base.specs.Pattern.{PatternCell, fixed, variable, restricted, Classes, IsTested, Meets}
use Rattle.eq_base.proofs.Scans.{forest_from, forest_from-start, forest_from-node, forest_from-args, forest_from-end}
use Rattle.regularity.specs.Arities.{HasArities, HaveArities}
use Rattle.orthogonal_laws.proofs.LeftSides.{Label}
use Rattle.orthogonal_laws.specs.Orthogonal.{IsHead}
use Rattle.orthogonal_laws.proofs.Matchers.{Matcher, Read, Skip, End, Done, Stop, path, done, join}
use Rattle.orthogonal_laws.proofs.Sequential.{Beside, beside_read, beside_skip, beside_end, beside_done, beside_stop_left, beside_stop_right}
use Rattle.orthogonal_laws.proofs.Joins.{join-stop}
use Rattle.orthogonal_laws.proofs.Translation.{test_of, tests, args_tests, both_true, first_true}
use Rattle.match_laws.specs.Items.{IsCell, HasCell, IsLastTested}
use Rattle.machine_laws.proofs.Completing.{Closed, closed_stop, closed_done, closed_skip, closed_end, Completes, completes-join, cond_completes, AllPlain, plain_append, path_completes, end_completes}

module _ {H : Type 0} (in_class : Classes H) (lefts : List (Tree (PatternCell H))) (proper : Label H → Type 0) where
  -- one cell further than one of these that is tested and met by the head
  abbrev pub Met : (ℕ → ℕ → Type 0) → H → ℕ → ℕ → Type 0
  Met these h e c = (b : ℕ) × (c ≡ suc b) × these e b × ((cell : PatternCell H) × IsCell lefts e b cell × IsTested cell × Meets in_class cell h) × HasCell lefts e c

  -- one cell further than one of these that is a plain variable
  abbrev pub Skipped : (ℕ → ℕ → Type 0) → ℕ → ℕ → Type 0
  Skipped these e c = (b : ℕ) × (c ≡ suc b) × these e b × ((x : ℕ) × IsCell lefts e b (variable x)) × HasCell lefts e c

  -- one of these is tested and met by the head, and no cell of its left side behind it is tested
  abbrev pub CompletedBy : (ℕ → ℕ → Type 0) → H → Type 0
  CompletedBy these h = (e : ℕ) × (c : ℕ) × these e c × ((cell : PatternCell H) × IsCell lefts e c cell × IsTested cell × Meets in_class cell h) × IsLastTested lefts e c

  -- the matcher does next what these items ask for, whatever heads it reads; and it comes to a right side only where one of them is completed
  abbrev pub Represents : Matcher H → (ℕ → ℕ → Type 0) → Type 0
  Represents (Read f) these = ((e : ℕ) × (c : ℕ) × these e c) × ((e c : ℕ) → these e c → (cell : PatternCell H) × IsCell lefts e c cell × IsTested cell) × ((l : Label H) → proper l → Represents (f l) (Met these l.0) × (Completes (f l) → CompletedBy these l.0))
  Represents (Skip m) these = ((e c : ℕ) → these e c → (x : ℕ) × IsCell lefts e c (variable x)) × Represents m (Skipped these)
  Represents (End m) these = Represents m these
  Represents (Done r) these = (e c : ℕ) → these e c → ⊥
  Represents Stop these = (e c : ℕ) → these e c → ⊥

  -- ---- the same items

  pub met_same : {these those : ℕ → ℕ → Type 0} → ((e c : ℕ) → these e c ↔ those e c) → (h : H) (e c : ℕ) → Met these h e c ↔ Met those h e c
  met_same same h e c = (λ m. (m.0, m.1, (same e m.0).0 m.2, m.3, m.4), λ m. (m.0, m.1, (same e m.0).1 m.2, m.3, m.4))

  skipped_same : {these those : ℕ → ℕ → Type 0} → ((e c : ℕ) → these e c ↔ those e c) → (e c : ℕ) → Skipped these e c ↔ Skipped those e c
  skipped_same same e c = (λ m. (m.0, m.1, (same e m.0).0 m.2, m.3, m.4), λ m. (m.0, m.1, (same e m.0).1 m.2, m.3, m.4))

  pub completed_same : {these those : ℕ → ℕ → Type 0} → ((e c : ℕ) → these e c ↔ those e c) → (h : H) → CompletedBy these h → CompletedBy those h
  completed_same same h x = (x.0, x.1, (same x.0 x.1).0 x.2, x.3, x.4)

  pub same_items : (m : Matcher H) {these those : ℕ → ℕ → Type 0} → ((e c : ℕ) → these e c ↔ those e c) → Represents m these → Represents m those
  same_items (Read f) same r = ((r.0.0, r.0.1, (same r.0.0 r.0.1).0 r.0.2), λ e c i. r.1 e c ((same e c).1 i), λ l p. (same_items (f l) (met_same same l.0) (r.2 l p).0, λ x. completed_same same l.0 ((r.2 l p).1 x)))
  same_items (Skip m) same r = (λ e c i. r.0 e c ((same e c).1 i), same_items m (skipped_same same) r.1)
  same_items (End m) same r = same_items m same r
  same_items (Done d) same r = λ e c i. r e c ((same e c).1 i)
  same_items Stop same r = λ e c i. r e c ((same e c).1 i)

  -- ---- two at once

  abbrev pub Both : (ℕ → ℕ → Type 0) → (ℕ → ℕ → Type 0) → ℕ → ℕ → Type 0
  Both these those e c = these e c ⊎ those e c

  pub met_both : (these those : ℕ → ℕ → Type 0) (h : H) (e c : ℕ) → Both (Met these h) (Met those h) e c ↔ Met (Both these those) h e c
  met_both these those h e c = (
    λ s. elim s [ inl m ↦ (m.0, m.1, inl m.2, m.3, m.4) | inr m ↦ (m.0, m.1, inr m.2, m.3, m.4) ],
    λ m. elim m.2 [ inl i ↦ inl (m.0, m.1, i, m.3, m.4) | inr i ↦ inr (m.0, m.1, i, m.3, m.4) ],
  )

  skipped_both : (these those : ℕ → ℕ → Type 0) (e c : ℕ) → Both (Skipped these) (Skipped those) e c ↔ Skipped (Both these those) e c
  skipped_both these those e c = (
    λ s. elim s [ inl m ↦ (m.0, m.1, inl m.2, m.3, m.4) | inr m ↦ (m.0, m.1, inr m.2, m.3, m.4) ],
    λ m. elim m.2 [ inl i ↦ inl (m.0, m.1, i, m.3, m.4) | inr i ↦ inr (m.0, m.1, i, m.3, m.4) ],
  )

  only_right : (these those : ℕ → ℕ → Type 0) → ((e c : ℕ) → these e c → ⊥) → (e c : ℕ) → those e c ↔ Both these those e c
  only_right these those none e c = (λ i. inr i, λ s. elim s [ inl i ↦ absurd (none e c i) | inr i ↦ i ])

  only_left : (these those : ℕ → ℕ → Type 0) → ((e c : ℕ) → those e c → ⊥) → (e c : ℕ) → these e c ↔ Both these those e c
  only_left these those none e c = (λ i. inl i, λ s. elim s [ inl i ↦ i | inr i ↦ absurd (none e c i) ])

  pub completed_both : (these those : ℕ → ℕ → Type 0) (h : H) (a b : Matcher H) → (Completes a → CompletedBy these h) → (Completes b → CompletedBy those h) → Completes (join a b) → CompletedBy (Both these those) h
  completed_both these those h a b one other x =
      elim (completes-join a b x) [
        | inl y ↦ (let z = one y in (z.0, z.1, inl z.2, z.3, z.4))
        | inr y ↦ (let z = other y in (z.0, z.1, inr z.2, z.3, z.4))
      ]

  pub both_items : (D : Tree (PatternCell H) → Tree (PatternCell H) → Type 0) (these those : ℕ → ℕ → Type 0) {a b : Matcher H} → Beside D a b → Represents a these → Represents b those → Represents (join a b) (Both these those)
  both_items D these those (beside_read {f = f} {g = g} x) r s = (
    (r.0.0, r.0.1, inl r.0.2),
    λ e c i. elim i [ inl k ↦ r.1 e c k | inr k ↦ s.1 e c k ],
    λ l p. (
      same_items (join (f l) (g l)) (met_both these those l.0) (both_items D (Met these l.0) (Met those l.0) (x l) (r.2 l p).0 (s.2 l p).0),
      λ y. completed_both these those l.0 (f l) (g l) (r.2 l p).1 (s.2 l p).1 y,
    ),
  )
  both_items D these those (beside_skip {a = a} {b = b} x) r s = (
    λ e c i. elim i [ inl k ↦ r.0 e c k | inr k ↦ s.0 e c k ],
    same_items (join a b) (skipped_both these those) (both_items D (Skipped these) (Skipped those) x r.1 s.1),
  )
  both_items D these those (beside_end x) r s = both_items D these those x r s
  both_items D these those (beside_done d) r s = λ e c i. elim i [ inl k ↦ r e c k | inr k ↦ s e c k ]
  both_items D these those (beside_stop_left {b = b}) r s = same_items b (only_right these those r) s
  both_items D these those (beside_stop_right {a = a}) r s = subst (λ m. Represents m (Both these those)) (sym (join-stop a)) (same_items a (only_left these those s) r)

  -- ---- the end

  -- where no cell from an item on is tested, nothing more is read
  pub untested_items : (m : Matcher H) {these : ℕ → ℕ → Type 0} → ((e c : ℕ) → these e c → (n : ℕ) (cell : PatternCell H) → c ≤ n → IsCell lefts e n cell → IsTested cell → ⊥) → Represents m these → Closed m
  untested_items (Read f) none r = let x = r.1 r.0.0 r.0.1 r.0.2 in absurd (none r.0.0 r.0.1 r.0.2 r.0.1 x.0 (omega arith) x.1 x.2)
  untested_items (Skip m) none r = closed_skip (untested_items m (λ e c i n cell past there tested. none e i.0 i.2 n cell (let z = i.1 in omega (arith, z, past)) there tested) r.1)
  untested_items (End m) none r = closed_end (untested_items m none r)
  untested_items (Done d) none r = closed_done
  untested_items Stop none r = closed_stop

  -- nor where no items are left
  pub no_items : (m : Matcher H) {these : ℕ → ℕ → Type 0} → ((e c : ℕ) → these e c → ⊥) → Represents m these → Closed m
  no_items m none r = untested_items m (λ e c i n cell past there tested. none e c i) r

  -- ---- one left side

  abbrev pub ItemAt : Tree (PatternCell H) → ℕ → ℕ → ℕ → ℕ → Type 0
  ItemAt left e k i c = (i ≡ e) × (c ≡ k) × (k < size left)

  module _ (same : H → H → Bool) (decides : (g h : H) → IsTrue (same g h) ↔ (g ≡ h)) (arity : H → ℕ) (constants : (class : ℕ) (h : H) → IsTrue (in_class class h) → arity h ≡ 0) (keeps : (l : Label H) → proper l → l.1 ≡ arity l.0) where
    module _ (e : ℕ) (left : Tree (PatternCell H)) (listed : slice_get lefts e ≡ Some left) where
      -- the cell at which patterns begin
      record Begins (k : ℕ) (p : Tree (PatternCell H)) (rest : Forest (PatternCell H)) : Type 0 where
        below : k < size left
        is : nth_subtree left k ≡ p
        within : forest_from left (k + 1) ≡ append (args_of p) rest
        after : forest_from left (k + size p) ≡ rest

      begins : (k : ℕ) (p : Tree (PatternCell H)) (rest : Forest (PatternCell H)) → forest_from left k ≡ grow p rest → Begins k p rest
      begins k p rest is =
          ⊎_elim
          (λ below.
          let f = forest_from-node left k below in
          let a = forest_from-args left k below in
          let same : nth_subtree left k ≡ p = cc in
          let after : forest_from left (k + size (nth_subtree left k)) ≡ rest = cc in
          record {
            below = below;
            is = same;
            within = a ∙ (ap (λ z. append (args_of (nth_subtree left k)) z) after ∙ ap (λ z. append (args_of z) rest) same);
            after = subst (λ z. forest_from left (k + size z) ≡ rest) same after;
          })
          (λ past. absurd (let z = forest_from-end left k past in cc))
          (cases_lt k (size left))

      cell_there : (k : ℕ) (p : Tree (PatternCell H)) → k < size left → nth_subtree left k ≡ p → IsCell lefts e k (head_of p)
      cell_there k p below is = record { left = left; listed = listed; there = below; stands = ap head_of is }

      -- what stands in a cell is one
      one_cell : (k : ℕ) (c d : PatternCell H) → IsCell lefts e k c → IsCell lefts e k d → c ≡ d
      one_cell k c d x y =
          let z : x.left ≡ y.left = let a = x.listed in let b = y.listed in cc in
          sym x.stands ∙ (ap (λ t. head_of (nth_subtree t k)) z ∙ y.stands)

      has_cell : (k : ℕ) → HasCell lefts e k → k < size left
      has_cell k x = let same : x.1.left ≡ left = let a = x.1.listed in let b = listed in cc in subst (λ t. k < size t) same x.1.there

      next_cell : (k : ℕ) → k < size left → HasCell lefts e k
      next_cell k below = (_, cell_there k (nth_subtree left k) below refl)

      -- the items one cell further than this one, where its cell is met
      met_next : (k : ℕ) (h : H) (cell : PatternCell H) → IsCell lefts e k cell → IsTested cell → Meets in_class cell h → (i c : ℕ) → ItemAt left e (k + 1) i c ↔ Met (ItemAt left e k) h i c
      met_next k h cell there tested meets i c = (
        λ x.
            let at : k < size left = (let z = x.2 in omega (arith, z)) in
            let has : HasCell lefts e (k + 1) = next_cell (k + 1) x.2 in (
              k,
              (let z = x.1 in omega (arith, z)),
              (x.0, refl, at),
              (cell, subst (λ z. IsCell lefts z k cell) (sym x.0) there, tested, meets),
              subst (λ z. HasCell lefts i z) (sym x.1) (subst (λ z. HasCell lefts z (k + 1)) (sym x.0) has),
            ),
        λ m.
            let at : c ≡ k + 1 = (let z = m.1 in let y = m.2.1 in omega (arith, z, y)) in
            let has = subst (λ z. HasCell lefts e z) at (subst (λ z. HasCell lefts z c) m.2.0 m.4) in
            (m.2.0, at, has_cell (k + 1) has),
      )

      skipped_next : (k : ℕ) (x : ℕ) → IsCell lefts e k (variable x) → (i c : ℕ) → ItemAt left e (k + 1) i c ↔ Skipped (ItemAt left e k) i c
      skipped_next k x there i c = (
        λ y.
            let at : k < size left = (let z = y.2 in omega (arith, z)) in
            let has : HasCell lefts e (k + 1) = next_cell (k + 1) y.2 in (
              k,
              (let z = y.1 in omega (arith, z)),
              (y.0, refl, at),
              (x, subst (λ z. IsCell lefts z k (variable x)) (sym y.0) there),
              subst (λ z. HasCell lefts i z) (sym y.1) (subst (λ z. HasCell lefts z (k + 1)) (sym y.0) has),
            ),
        λ m.
            let at : c ≡ k + 1 = (let z = m.1 in let y = m.2.1 in omega (arith, z, y)) in
            let has = subst (λ z. HasCell lefts e z) at (subst (λ z. HasCell lefts z c) m.2.0 m.4) in
            (m.2.0, at, has_cell (k + 1) has),
      )

      cell_of_item : (k : ℕ) (cell : PatternCell H) → IsCell lefts e k cell → (i c : ℕ) → ItemAt left e k i c → IsCell lefts i c cell
      cell_of_item k cell there i c x = subst (λ z. IsCell lefts i z cell) (sym x.1) (subst (λ z. IsCell lefts z k cell) (sym x.0) there)

      -- a test that fails leaves no items
      failed : (k : ℕ) (h : H) (cell : PatternCell H) → IsCell lefts e k cell → (Meets in_class cell h → ⊥) → (i c : ℕ) → Met (ItemAt left e k) h i c → ⊥
      failed k h cell there fails i c m =
          let x = subst (λ z. IsCell lefts i z m.3.0) m.2.1 m.3.1 in
          let y = subst (λ z. IsCell lefts z k m.3.0) m.2.0 x in
          fails (subst (λ z. Meets in_class z h) (one_cell k m.3.0 cell y there) m.3.3)

      at_number : (m : Matcher H) {k n : ℕ} → k ≡ n → Represents m (ItemAt left e k) → Represents m (ItemAt left e n)
      at_number m same r = subst (λ z. Represents m (ItemAt left e z)) same r

      head_met : (g : H) (n : ℕ) (l : Label H) → n ≡ arity g → proper l → Meets in_class (fixed g) l.0 → IsTrue (test_of same in_class (fixed g) n l)
      head_met g n l a p m = both_true ((decides g l.0).1 m) (eq-eqb l.1 n (keeps l p ∙ (ap arity (sym m) ∙ sym a)))

      class_met : (class : ℕ) (l : Label H) → proper l → IsTrue (in_class class l.0) → IsTrue (test_of same in_class (restricted 0 class) 0 l)
      class_met class l p m = both_true m (eq-eqb l.1 0 (keeps l p ∙ constants class l.0 m))

      decided : (b : Bool) (m : Matcher H) {these : ℕ → ℕ → Type 0} → (IsTrue b → Represents m these) → ((IsTrue b → ⊥) → (i c : ℕ) → these i c → ⊥) → Represents (cond b m Stop) these
      decided true m passes fails = passes refl
      decided false m passes fails = fails (λ e. cc)

      -- where only plain variables begin from a cell on, none of the cells from there on is tested
      plain_cells : (ps : Forest (PatternCell H)) (k : ℕ) → forest_from left k ≡ ps → AllPlain ps → (n : ℕ) (cell : PatternCell H) → k ≤ n → IsCell lefts e n cell → IsTested cell → ⊥
      plain_cells empty k is a n cell past there tested = absurd (
          let below = has_cell n (cell, there) in
          let f = forest_from-node left k (omega (arith, below)) in
          cc)
      plain_cells (grow (node c us) ps) k is a n cell past there tested =
          let b = begins k (node c us) ps is in
          ⊎_elim
          (λ more.
          let within : forest_from left (k + 1) ≡ ps = b.within ∙ ap (λ (z : Forest (PatternCell H)). append z ps) a.1 in
          plain_cells ps (k + 1) within a.2 n cell (omega arith) there tested)
          (λ here.
          let same : n ≡ k = omega arith in
          let at = subst (λ z. IsCell lefts e z cell) same there in
          a.0 (subst (λ z. IsTested z) (one_cell k cell c at (cell_there k (node c us) b.below b.is)) tested))
          (cases_lt k n)

      -- an item whose cell is met is completed where only plain variables follow
      item_completed : (k : ℕ) (h : H) (cell : PatternCell H) (ps : Forest (PatternCell H)) → k < size left → IsCell lefts e k cell → IsTested cell → Meets in_class cell h → forest_from left (k + 1) ≡ ps → AllPlain ps → CompletedBy (ItemAt left e k) h
      item_completed k h cell ps below there tested meets is plain = (e, k, (refl, refl, below), (cell, there, tested, meets), λ n other past at t. plain_cells ps (k + 1) is plain n other (omega arith) at t)

      -- patterns that begin at a cell are represented by their path, if what follows is
      path_items : (f : H) (ps rest : Forest (PatternCell H)) (k n : ℕ) (next : Forest H → Matcher H) → HaveArities arity ps → forest_from left k ≡ append ps rest → n ≡ k + total_size ps →
          ((ts : Forest H) → Represents (next ts) (ItemAt left e n) × (Completes (next ts) → AllPlain rest)) → Represents (path f (tests same in_class ps) next) (ItemAt left e k)
      path_items f empty rest k n next a is end each = at_number (next empty) (omega (arith, end)) (each empty).0
      path_items f (grow (node (variable x) us) ps) rest k n next a is end each =
          let b = begins k (node (variable x) us) (append ps rest) is in
          let there = cell_there k (node (variable x) us) b.below b.is in
          let none : total_size us ≡ 0 = ap (λ (z : Forest (PatternCell H)). total_size z) a.0 in
          let within : forest_from left (k + 1) ≡ append ps rest = b.within ∙ ap (λ (z : Forest (PatternCell H)). append z (append ps rest)) a.0 in (
            λ i c y. (x, cell_of_item k (variable x) there i c y),
            same_items (path f (tests same in_class ps) (λ ts. next (grow (node f empty) ts))) (skipped_next k x there)
                (path_items f ps rest (k + 1) n (λ ts. next (grow (node f empty) ts)) a.1 within (omega (arith, end, none)) (λ ts. each (grow (node f empty) ts))),
          )
      path_items f (grow (node (fixed g) us) ps) rest k n next a is end each =
          let b = begins k (node (fixed g) us) (append ps rest) is in
          let there = cell_there k (node (fixed g) us) b.below b.is in (
            (e, k, (refl, refl, b.below)),
            λ i c y. (fixed g, cell_of_item k (fixed g) there i c y, tt),
            λ l p.
                let inside : Forest H → Matcher H = λ vs. path f (tests same in_class ps) (λ ts. next (grow (node l.0 vs) ts)) in
                let whole = path f (tests same in_class us) inside in (
                  decided (test_of same in_class (fixed g) (count us) l) whole
                      (λ passes. same_items whole (met_next k l.0 (fixed g) there tt ((decides g l.0).0 (first_true _ _ passes)))
                      (path_items f us (append ps rest) (k + 1) (k + size (node (fixed g) us)) inside a.0.1 b.within (omega arith)
                      (λ vs. (
                        path_items f ps rest (k + size (node (fixed g) us)) n (λ ts. next (grow (node l.0 vs) ts)) a.1 b.after (omega (arith, end)) (λ ts. each (grow (node l.0 vs) ts)),
                        λ x. let y = path_completes same in_class arity f ps (λ ts. next (grow (node l.0 vs) ts)) a.1 x in plain_append ps rest y.0 ((each (grow (node l.0 vs) y.1.0)).1 y.1.1),
                      ))))
                      (λ fails i c m. failed k l.0 (fixed g) there (λ meets. fails (head_met g (count us) l a.0.0 p meets)) i c m),
                  λ x.
                      let z = cond_completes (test_of same in_class (fixed g) (count us) l) whole x in
                      let y = path_completes same in_class arity f us inside a.0.1 z.1 in
                      let y' = path_completes same in_class arity f ps (λ ts. next (grow (node l.0 y.1.0) ts)) a.1 y.1.1 in
                      item_completed k l.0 (fixed g) (append us (append ps rest)) b.below there tt ((decides g l.0).0 (first_true _ _ z.0)) b.within
                      (plain_append us (append ps rest) y.0 (plain_append ps rest y'.0 ((each (grow (node l.0 y.1.0) y'.1.0)).1 y'.1.1))),
                ),
          )
      path_items f (grow (node (restricted x class) us) ps) rest k n next a is end each =
          let b = begins k (node (restricted x class) us) (append ps rest) is in
          let there = cell_there k (node (restricted x class) us) b.below b.is in
          let none : total_size us ≡ 0 = ap (λ (z : Forest (PatternCell H)). total_size z) a.0 in
          let within : forest_from left (k + 1) ≡ append ps rest = b.within ∙ ap (λ (z : Forest (PatternCell H)). append z (append ps rest)) a.0 in (
            (e, k, (refl, refl, b.below)),
            λ i c y. (restricted x class, cell_of_item k (restricted x class) there i c y, tt),
            λ l p.
                let after : Forest H → Matcher H = λ ts. next (grow (node l.0 empty) ts) in
                let whole = path f (tests same in_class ps) after in (
                  decided (test_of same in_class (restricted x class) 0 l) (End whole)
                      (λ passes. same_items whole (met_next k l.0 (restricted x class) there tt (first_true _ _ passes))
                      (path_items f ps rest (k + 1) n after a.1 within (omega (arith, end, none)) (λ ts. each (grow (node l.0 empty) ts))))
                      (λ fails i c m. failed k l.0 (restricted x class) there (λ meets. fails (class_met class l p meets)) i c m),
                  λ y.
                      let z = cond_completes (test_of same in_class (restricted x class) 0 l) (End whole) y in
                      let v = path_completes same in_class arity f ps after a.1 (end_completes z.1) in
                      item_completed k l.0 (restricted x class) (append ps rest) b.below there tt (first_true _ _ z.0) within (plain_append ps rest v.0 ((each (grow (node l.0 empty) v.1.0)).1 v.1.1)),
                ),
          )

      none_past : (r : Option (Tree (PatternCell H))) → Represents (done r) (ItemAt left e (size left))
      none_past None = λ i c x. let z = x.2 in omega (arith, z)
      none_past (Some r) = λ i c x. let z = x.2 in omega (arith, z)

      -- a left side whose root reads a head
      pub root_items : (l : Label H) (right : Forest H → Option (Tree (PatternCell H))) → proper l → HasArities arity left → IsHead (head_of left) →
          Represents (cond (test_of same in_class (head_of left) (arity_of left) l) (path l.0 (args_tests same in_class left) (λ us. done (right us))) Stop) (Met (ItemAt left e 0) l.0)
          × (Completes (cond (test_of same in_class (head_of left) (arity_of left) l) (path l.0 (args_tests same in_class left) (λ us. done (right us))) Stop) → CompletedBy (ItemAt left e 0) l.0)
      root_items l right p a head = go left a head (forest_from-start left) (size left) refl none_past
        where
          go : (t : Tree (PatternCell H)) → HasArities arity t → IsHead (head_of t) → forest_from left 0 ≡ grow t empty → (n : ℕ) → size t ≡ n → ((r : Option (Tree (PatternCell H))) → Represents (done r) (ItemAt left e n)) →
              Represents (cond (test_of same in_class (head_of t) (arity_of t) l) (path l.0 (args_tests same in_class t) (λ us. done (right us))) Stop) (Met (ItemAt left e 0) l.0)
              × (Completes (cond (test_of same in_class (head_of t) (arity_of t) l) (path l.0 (args_tests same in_class t) (λ us. done (right us))) Stop) → CompletedBy (ItemAt left e 0) l.0)
          go (node (variable x) us) a head is n sized each = absurd head
          go (node (restricted x class) us) a head is n sized each = absurd head
          go (node (fixed g) us) a head is n sized each =
              let b = begins 0 (node (fixed g) us) empty is in
              let there = cell_there 0 (node (fixed g) us) b.below b.is in
              let whole = path l.0 (tests same in_class us) (λ us. done (right us)) in (
                decided (test_of same in_class (fixed g) (count us) l) whole
                    (λ passes. same_items whole (met_next 0 l.0 (fixed g) there tt ((decides g l.0).0 (first_true _ _ passes)))
                    (path_items l.0 us empty (0 + 1) n (λ us. done (right us)) a.1 b.within (omega (arith, sized)) (λ ts. (each (right ts), λ x. tt))))
                    (λ fails i c m. failed 0 l.0 (fixed g) there (λ meets. fails (head_met g (count us) l a.0 p meets)) i c m),
                λ x.
                    let z = cond_completes (test_of same in_class (fixed g) (count us) l) whole x in
                    let y = path_completes same in_class arity l.0 us (λ us. done (right us)) a.1 z.1 in
                    item_completed 0 l.0 (fixed g) (append us empty) b.below there tt ((decides g l.0).0 (first_true _ _ z.0)) b.within (plain_append us empty y.0 tt),
              )
