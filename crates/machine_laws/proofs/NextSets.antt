-- Item sets lead on: by each head, and by a skip, there is a next one; and what they want is decided.
use Rattle.std.proofs.Common.{◌≡◌, ℕ, zero, suc, ◌+◌, ◌<◌, ◌≤◌, List, [], ◌∷◌, length, ◌⊎◌, inl, inr, Bool, true, false, Option, Some, None, refl, sym, ◌∙◌, ap, subst, arith, ⊎_elim}
use Rattle.std.specs.Prelude.{◌↔◌, IsTrue, Contains, slice_get}
use Rattle.std.specs.List.{AllByRecursion}
use Rattle.std.proofs.lemmas.Bool.{cases_lt}
use Rattle.std.proofs.lemmas.Option.{slice_get_within}
use Rattle.eq_base.specs.Tree.{Tree, head_of, size, nth_subtree, nth_position}
use Rattle.eq_base.specs.Pattern.{PatternCell, fixed, variable, restricted, IsTested, Meets}
use Rattle.eq_base.specs.Rewriting.{System}
use Rattle.eq_base.proofs.Lists.{all_map}
use Rattle.orthogonal_laws.specs.Orthogonal.{IsWellFormedSystem}
use Rattle.orthogonal_laws.proofs.Members.{In, in_first, in_next, contains-in, in-contains}
use Rattle.match_laws.specs.Items.{Item, ItemSet, Precedes, IsOrdered, IsCell, HasCell, Holds, IsPlain, IsWaiting, IsFurther, AreFurther, IsSkip, IsLastTested, WantsRead, WantsSkip, WantsNothing, IsMet, IsRead, IsCompleted, IsFirstCompleted}
use Rattle.match_laws.specs.Demand.{left_sides}

-- it holds, or it does not
abbrev pub Decided : Type 0 → Type 0
Decided P = P ⊎ (P → ⊥)

-- ---- lists of decided items

module _ (P : ℕ → ℕ → Type 0) (decide : (e c : ℕ) → Decided (P e c)) where
  -- the item is this one, or comes after it
  abbrev From : ℕ → ℕ → Item → Type 0
  From c e x = (c < x.1) ⊎ ((c ≡ x.1) × (e ≤ x.0))

  abbrev choose : {X Y : Type 0} → X ⊎ Y → Item → ItemSet → ItemSet
  choose (inl x) a rest = a ∷ rest
  choose (inr y) a rest = rest

  abbrev row : ℕ → ℕ → ℕ → ItemSet → ItemSet
  row c e zero rest = rest
  row c e (suc n) rest = choose (decide e c) (e, c) (row c (suc e) n rest)

  abbrev table : ℕ → ℕ → ℕ → ItemSet
  table m c zero = []
  table m c (suc n) = row c 0 m (table m (suc c) n)

  from_next_row : (c e : ℕ) (x : Item) → From (suc c) 0 x → From c e x
  from_next_row c e x (inl less) = inl (omega (arith, less))
  from_next_row c e x (inr same) = inl (let z = same.0 in omega (arith, z))

  from_next : (c e : ℕ) (x : Item) → From c (suc e) x → From c e x
  from_next c e x (inl less) = inl less
  from_next c e x (inr same) = inr (same.0, (let z = same.1 in omega (arith, z)))

  precedes_from : (c e : ℕ) (x : Item) → From c (suc e) x → Precedes (e, c) x
  precedes_from c e x (inl less) = inl less
  precedes_from c e x (inr same) = inr (same.0, (let z = same.1 in omega (arith, z)))

  choose_ordered : {X Y : Type 0} (d : X ⊎ Y) (c e : ℕ) (rest : ItemSet) → IsOrdered rest → AllByRecursion (From c (suc e)) rest → IsOrdered (choose d (e, c) rest) × AllByRecursion (From c e) (choose d (e, c) rest)
  choose_ordered (inl x) c e rest o a = ((all_map (From c (suc e)) (λ b. Precedes (e, c) b) rest (λ x f. precedes_from c e x f) a, o), (inr (refl, omega arith), all_map (From c (suc e)) (From c e) rest (λ x f. from_next c e x f) a))
  choose_ordered (inr y) c e rest o a = (o, all_map (From c (suc e)) (From c e) rest (λ x f. from_next c e x f) a)

  row_ordered : (c e n : ℕ) (rest : ItemSet) → IsOrdered rest → AllByRecursion (From (suc c) 0) rest → IsOrdered (row c e n rest) × AllByRecursion (From c e) (row c e n rest)
  row_ordered c e zero rest o a = (o, all_map (From (suc c) 0) (From c e) rest (λ x f. from_next_row c e x f) a)
  row_ordered c e (suc n) rest o a = let r = row_ordered c (suc e) n rest o a in choose_ordered (decide e c) c e (row c (suc e) n rest) r.0 r.1

  table_ordered : (m c n : ℕ) → IsOrdered (table m c n) × AllByRecursion (From c 0) (table m c n)
  table_ordered m c zero = (tt, tt)
  table_ordered m c (suc n) = let r = table_ordered m (suc c) n in row_ordered c 0 m (table m (suc c) n) r.0 r.1

  abbrev Sound : ItemSet → Type 0
  Sound items = AllByRecursion (λ x. P x.0 x.1) items

  choose_sound : (e c : ℕ) (d : Decided (P e c)) (rest : ItemSet) → Sound rest → Sound (choose d (e, c) rest)
  choose_sound e c (inl p) rest a = (p, a)
  choose_sound e c (inr n) rest a = a

  row_sound : (c e n : ℕ) (rest : ItemSet) → Sound rest → Sound (row c e n rest)
  row_sound c e zero rest a = a
  row_sound c e (suc n) rest a = choose_sound e c (decide e c) (row c (suc e) n rest) (row_sound c (suc e) n rest a)

  table_sound : (m c n : ℕ) → Sound (table m c n)
  table_sound m c zero = tt
  table_sound m c (suc n) = row_sound c 0 m (table m (suc c) n) (table_sound m (suc c) n)

  choose_keeps : {X Y : Type 0} (d : X ⊎ Y) (a : Item) (rest : ItemSet) (x : Item) → In rest x → In (choose d a rest) x
  choose_keeps (inl y) a rest x i = in_next i
  choose_keeps (inr n) a rest x i = i

  choose_here : (e c : ℕ) (d : Decided (P e c)) (rest : ItemSet) → P e c → In (choose d (e, c) rest) (e, c)
  choose_here e c (inl p) rest q = in_first
  choose_here e c (inr n) rest q = absurd (n q)

  row_keeps : (c e n : ℕ) (rest : ItemSet) (x : Item) → In rest x → In (row c e n rest) x
  row_keeps c e zero rest x i = i
  row_keeps c e (suc n) rest x i = choose_keeps (decide e c) (e, c) (row c (suc e) n rest) x (row_keeps c (suc e) n rest x i)

  row_whole : (c e n : ℕ) (rest : ItemSet) (i : ℕ) → e ≤ i → i < e + n → P i c → In (row c e n rest) (i, c)
  row_whole c e zero rest i le lt p = absurd (omega (arith, le, lt))
  row_whole c e (suc n) rest i le lt p =
      ⊎_elim
      (λ more. choose_keeps (decide e c) (e, c) (row c (suc e) n rest) (i, c) (row_whole c (suc e) n rest i (omega (arith, more)) (omega (arith, lt)) p))
      (λ none. let same : e ≡ i = omega (arith, le, none) in subst (λ z. In (choose (decide e c) (e, c) (row c (suc e) n rest)) (z, c)) same (choose_here e c (decide e c) (row c (suc e) n rest) (subst (λ z. P z c) (sym same) p)))
      (cases_lt e i)

  table_whole : (m c n i d : ℕ) → c ≤ d → d < c + n → i < m → P i d → In (table m c n) (i, d)
  table_whole m c zero i d le lt in_m p = absurd (omega (arith, le, lt))
  table_whole m c (suc n) i d le lt in_m p =
      ⊎_elim
      (λ more. row_keeps c 0 m (table m (suc c) n) (i, d) (table_whole m (suc c) n i d (omega (arith, more)) (omega (arith, lt)) in_m p))
      (λ none. let same : c ≡ d = omega (arith, le, none) in subst (λ z. In (row c 0 m (table m (suc c) n)) (i, z)) same (row_whole c 0 m (table m (suc c) n) i (omega arith) (omega (arith, in_m)) (subst (λ z. P i z) (sym same) p)))
      (cases_lt c d)

  all_sound : (items : ItemSet) → Sound items → (e c : ℕ) → In items (e, c) → P e c
  all_sound [] a e c i = elim i [ ]
  all_sound (x ∷ items) a e c in_first = a.0
  all_sound (x ∷ items) a e c (in_next i) = all_sound items a.1 e c i

  -- the items below the bounds, in order
  pub listed_items : (m n : ℕ) → ((e c : ℕ) → P e c → (e < m) × (c < n)) → (items : ItemSet) × IsOrdered items × ((e c : ℕ) → Contains items (e, c) ↔ P e c)
  listed_items m n bound = (
    table m 0 n,
    (table_ordered m 0 n).0,
    λ e c. (λ i. all_sound (table m 0 n) (table_sound m 0 n) e c (contains-in i), λ p. let b = bound e c p in in-contains (table_whole m 0 n e c (omega arith) (let z = b.1 in omega (arith, z)) b.0 p)),
  )

-- ---- what is decided

by_bool : {P : Type 0} (b : Bool) → IsTrue b ↔ P → Decided P
by_bool true d = inl (d.0 refl)
by_bool false d = inr (λ p. let z = d.1 p in absurd (cc))

same_number : (a b : ℕ) → Decided (a ≡ b)
same_number a b = ⊎_elim (λ less. inr (λ e. omega (arith, less, e))) (λ ge. ⊎_elim (λ more. inr (λ e. omega (arith, more, e))) (λ le. inl (omega (arith, ge, le))) (cases_lt b a)) (cases_lt a b)

both_decided : {P Q : Type 0} → Decided P → Decided Q → Decided (P × Q)
both_decided (inl p) (inl q) = inl (p, q)
both_decided (inl p) (inr n) = inr (λ x. n x.1)
both_decided (inr n) d = inr (λ x. n x.0)

either_decided : {P Q : Type 0} → Decided P → Decided Q → Decided (P ⊎ Q)
either_decided (inl p) d = inl (inl p)
either_decided (inr n) (inl q) = inl (inr q)
either_decided (inr n) (inr n') = inr (λ x. elim x [ inl p ↦ n p | inr q ↦ n' q ])

decided_as : {P Q : Type 0} → (P → Q) → (Q → P) → Decided P → Decided Q
decided_as f g (inl p) = inl (f p)
decided_as f g (inr n) = inr (λ q. n (g q))

-- the least number below the bound of which it holds, or there is none
pub least : (Q : ℕ → Type 0) → ((k : ℕ) → Decided (Q k)) → (n : ℕ) → ((k : ℕ) × (k < n) × Q k × ((j : ℕ) → j < k → Q j → ⊥)) ⊎ ((k : ℕ) → k < n → Q k → ⊥)
least Q decide zero = inr (λ k lt q. omega (arith, lt))
least Q decide (suc n) = elim (least Q decide n) [
  | inl x ↦ inl (x.0, (let z = x.1 in omega (arith, z)), x.2, x.3)
  | inr none ↦ elim (decide n) [
    | inl q ↦ inl (n, omega arith, q, none)
    | inr fails ↦ inr (λ k lt q. ⊎_elim (λ below. none k below q) (λ at. let same : k ≡ n = omega (arith, lt, at) in fails (subst Q same q)) (cases_lt k n))
  ]
]

abbrev total_sizes : {A : Type 0} → List (Tree A) → ℕ
total_sizes [] = 0
total_sizes (t ∷ ts) = size t + total_sizes ts

size-within : {A : Type 0} (ts : List (Tree A)) (e : ℕ) (t : Tree A) → slice_get ts e ≡ Some t → size t ≤ total_sizes ts
size-within [] e t at = absurd (cc)
size-within (u ∷ ts) zero t at = let same : u ≡ t = cc in let z = ap (λ x. size x) same in omega (arith, z)
size-within (u ∷ ts) (suc e) t at = let z = size-within ts e t at in omega (arith, z)

module _ {H : Type 0} (system : System H) (w : IsWellFormedSystem system) where
  abbrev lefts : List (Tree (PatternCell H))
  lefts = left_sides system

  one_cell : (e c : ℕ) (a b : PatternCell H) → IsCell lefts e c a → IsCell lefts e c b → a ≡ b
  one_cell e c a b x y =
      let z : x.left ≡ y.left = let p = x.listed in let q = y.listed in cc in
      sym x.stands ∙ (ap (λ t. head_of (nth_subtree t c)) z ∙ y.stands)

  cell_bounds : (e c : ℕ) (cell : PatternCell H) → IsCell lefts e c cell → (e < length lefts) × (c < total_sizes lefts)
  cell_bounds e c cell x = (slice_get_within lefts e x.left x.listed, (let z = size-within lefts e x.left x.listed in let y = x.there in omega (arith, z, y)))

  cell_or_none : (e c : ℕ) → Decided (HasCell lefts e c)
  cell_or_none e c = by (slice_get lefts e) refl
    where
      by : (o : Option (Tree (PatternCell H))) → slice_get lefts e ≡ o → Decided (HasCell lefts e c)
      by None at = inr (λ x. let z = x.1.listed in absurd (cc))
      by (Some left) at =
          ⊎_elim
          (λ below. inl (head_of (nth_subtree left c), record { left = left; listed = at; there = below; stands = refl }))
          (λ past. inr (λ x. let same : x.1.left ≡ left = let z = x.1.listed in cc in let y = subst (λ (t : Tree (PatternCell H)). c < size t) same x.1.there in omega (arith, past, y)))
          (cases_lt c (size left))

  -- what is decided of each cell is decided of the one that stands there
  of_cell : (e c : ℕ) (Q : PatternCell H → Type 0) → ((cell : PatternCell H) → Decided (Q cell)) → Decided ((cell : PatternCell H) × IsCell lefts e c cell × Q cell)
  of_cell e c Q decide = elim (cell_or_none e c) [
    | inr none ↦ inr (λ x. none (x.0, x.1))
    | inl at ↦ decided_as (λ q. (at.0, at.1, q)) (λ x. subst Q (one_cell e c x.0 at.0 x.1 at.1) x.2) (decide at.0)
  ]

  listed_or_not : (items : ItemSet) (e c : ℕ) → Decided (In items (e, c))
  listed_or_not [] e c = inr (λ i. elim i [ ])
  listed_or_not ((i, j) ∷ items) e c = elim (both_decided (same_number i e) (same_number j c)) [
    | inl same ↦ inl (subst (λ z. In ((i, j) ∷ items) (z, c)) same.0 (subst (λ z. In ((i, j) ∷ items) (i, z)) same.1 in_first))
    | inr other ↦ decided_as (λ x. in_next x) (λ x. later i j items e c other x) (listed_or_not items e c)
  ]
    where
      later : (i j : ℕ) (items : ItemSet) (e c : ℕ) → ((i ≡ e) × (j ≡ c) → ⊥) → In ((i, j) ∷ items) (e, c) → In items (e, c)
      later i j items e c other in_first = absurd (other (refl, refl))
      later i j items e c other (in_next x) = x

  held_or_not : (items : ItemSet) (e c : ℕ) → Decided (Holds lefts items e c)
  held_or_not items e c = both_decided (cell_or_none e c) (either_decided (same_number c 0) (decided_as (λ x. in-contains x) (λ x. contains-in x) (listed_or_not items e c)))

  tested_or_plain : (cell : PatternCell H) → Decided (IsTested cell)
  tested_or_plain (fixed g) = inl tt
  tested_or_plain (variable x) = inr (λ t. t)
  tested_or_plain (restricted x class) = inl tt

  meets_or_not : (h : H) (cell : PatternCell H) → Decided (Meets system.in_class cell h)
  meets_or_not h (fixed g) = by_bool (w.same g h) (w.decides g h)
  meets_or_not h (variable x) = inl tt
  meets_or_not h (restricted x class) = by_bool (system.in_class class h) ((λ t. t), (λ t. t))

  plain_or_not : (cell : PatternCell H) → Decided ((x : ℕ) × (cell ≡ variable x))
  plain_or_not (fixed g) = inr (λ x. let z = x.1 in absurd (cc))
  plain_or_not (variable x) = inl (x, refl)
  plain_or_not (restricted x class) = inr (λ x. let z = x.1 in absurd (cc))

  met_or_not : (items : ItemSet) (h : H) (e c : ℕ) → Decided (IsMet system.in_class lefts items h e c)
  met_or_not items h e c =
      decided_as
      (λ x. record { held = x.0; cell = x.1.0; is_cell = x.1.1; tested = x.1.2.0; meets = x.1.2.1 })
      (λ m. (m.held, (m.cell, m.is_cell, (m.tested, m.meets))))
      (both_decided (held_or_not items e c) (of_cell e c (λ cell. IsTested cell × Meets system.in_class cell h) (λ cell. both_decided (tested_or_plain cell) (meets_or_not h cell))))

  plain_item_or_not : (items : ItemSet) (e c : ℕ) → Decided (IsPlain lefts items e c)
  plain_item_or_not items e c =
      decided_as
      (λ x. record { held = x.0; x = x.1.2.0; is_cell = subst (λ z. IsCell lefts e c z) x.1.2.1 x.1.1 })
      (λ p. (p.held, (variable p.x, p.is_cell, (p.x, refl))))
      (both_decided (held_or_not items e c) (of_cell e c (λ cell. (x : ℕ) × (cell ≡ variable x)) plain_or_not))

  further_or_not : (these : ℕ → ℕ → Type 0) → ((e c : ℕ) → Decided (these e c)) → (e c : ℕ) → Decided (IsFurther lefts these e c)
  further_or_not these decide e zero = inr (λ f. let z = f.further in absurd (cc))
  further_or_not these decide e (suc b) =
      decided_as
      (λ x. record { before = b; further = refl; this = x.0; there = x.1 })
      (λ f. (subst (λ z. these e z) (let z = f.further in omega (arith, z)) f.this, f.there))
      (both_decided (decide e b) (cell_or_none e (suc b)))

  -- the items one cell further than decided ones
  further_set : (these : ℕ → ℕ → Type 0) → ((e c : ℕ) → Decided (these e c)) → (next : ItemSet) × AreFurther lefts these next
  further_set these decide =
      let x = listed_items (IsFurther lefts these) (further_or_not these decide) (length lefts) (total_sizes lefts) (λ e c f. cell_bounds e c f.there.0 f.there.1) in
      (x.0, record { ordered = x.1; exactly = x.2 })

  pub read_set : (items : ItemSet) (h : H) → (next : ItemSet) × IsRead system.in_class lefts items h next
  read_set items h = further_set (IsMet system.in_class lefts items h) (met_or_not items h)

  pub skip_set : (items : ItemSet) → (next : ItemSet) × IsSkip lefts items next
  skip_set items = further_set (IsPlain lefts items) (plain_item_or_not items)

  -- ---- what is wanted, and what is completed

  -- an item below the root waits for a read
  record Waits (items : ItemSet) (e c : ℕ) : Type 0 where
    below : 0 < c
    waiting : IsWaiting lefts items e c

  waiting_or_not : (items : ItemSet) (e c : ℕ) → Decided (Waits items e c)
  waiting_or_not items e c =
      decided_as
      (λ x. record { below = x.0; waiting = record { held = x.1.0; cell = x.1.1.0; is_cell = x.1.1.1; tested = x.1.1.2 } })
      (λ p. (p.below, (p.waiting.held, (p.waiting.cell, p.waiting.is_cell, p.waiting.tested))))
      (both_decided (⊎_elim (λ less. inl less) (λ le. inr (λ lt. omega (arith, le, lt))) (cases_lt 0 c)) (both_decided (held_or_not items e c) (of_cell e c IsTested tested_or_plain)))

  -- some cell of a left side, of which it is decided
  some_cell : (Q : ℕ → ℕ → Type 0) → ((e c : ℕ) → Decided (Q e c)) → ((e c : ℕ) → Q e c → HasCell lefts e c) → (e : ℕ) → Decided ((c : ℕ) × Q e c)
  some_cell Q decide cells e = elim (least (Q e) (decide e) (total_sizes lefts)) [
    | inl x ↦ inl (x.0, x.2)
    | inr none ↦ inr (λ x. let cell = cells e x.0 x.1 in none x.0 (cell_bounds e x.0 cell.0 cell.1).1 x.1)
  ]

  pub wanted : (items : ItemSet) → WantsRead lefts items ⊎ (WantsSkip lefts items ⊎ WantsNothing lefts items)
  wanted items = elim (least (λ e. (c : ℕ) × Waits items e c) (some_cell (Waits items) (waiting_or_not items) (λ e c p. p.waiting.held.0)) (length lefts)) [
    | inl x ↦ inl (record { e = x.0; c = x.2.0; below = x.2.1.below; waiting = x.2.1.waiting })
    | inr none ↦ inr (rest items (λ r. none r.e (cell_bounds r.e r.c r.waiting.cell r.waiting.is_cell).0 (r.c, record { below = r.below; waiting = r.waiting })))
  ]
    where
      rest : (items : ItemSet) → (WantsRead lefts items → ⊥) → WantsSkip lefts items ⊎ WantsNothing lefts items
      rest [] none = inr refl
      rest (a ∷ items) none = inl (record { some = omega arith; no_read = none })

  last_or_not : (e c : ℕ) → Decided (IsLastTested lefts e c)
  last_or_not e c = elim (least (λ k. (c < k) × ((cell : PatternCell H) × IsCell lefts e k cell × IsTested cell)) (λ k. both_decided (⊎_elim (λ less. inl less) (λ le. inr (λ lt. omega (arith, le, lt))) (cases_lt c k)) (of_cell e k IsTested tested_or_plain)) (total_sizes lefts)) [
    | inl x ↦ inr (λ last. last x.0 x.2.1.0 x.2.0 x.2.1.1 x.2.1.2)
    | inr none ↦ inl (λ k cell more at tested. none k (cell_bounds e k cell at).1 (more, (cell, at, tested)))
  ]

  completed_or_not : (items : ItemSet) (h : H) (e c : ℕ) → Decided (IsCompleted system.in_class lefts items h e c)
  completed_or_not items h e c = decided_as (λ x. record { met = x.0; last = x.1 }) (λ x. (x.met, x.last)) (both_decided (met_or_not items h e c) (last_or_not e c))

  -- the first left side that the head completes, or it completes none
  pub completed_or_none : (items : ItemSet) (h : H) → ((e : ℕ) × (height : ℕ) × IsFirstCompleted system.in_class lefts items h e height) ⊎ ((e c : ℕ) → IsCompleted system.in_class lefts items h e c → ⊥)
  completed_or_none items h = elim (least (λ e. (c : ℕ) × IsCompleted system.in_class lefts items h e c) (some_cell (λ e c. IsCompleted system.in_class lefts items h e c) (completed_or_not items h) (λ e c x. x.met.held.0)) (length lefts)) [
    | inl x ↦
        let cell = x.2.1.met.is_cell in
        inl (x.0, length (nth_position cell.left x.2.0), record { c = x.2.0; completed = x.2.1; is_depth = record { left = cell.left; listed = cell.listed; is = refl }; first = λ k b less y. x.3 k less (b, y) })
    | inr none ↦ inr (λ e c x. none e (cell_bounds e c x.met.cell x.met.is_cell).0 (c, x))
  ]
