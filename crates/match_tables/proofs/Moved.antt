-- Item sets as they are filled, and what a cell of the code says of one of the definitions.
use Rattle.std.proofs.Common.{◌≡◌, ◌⊎◌, ℕ, zero, suc, ◌+◌, ◌<◌, ◌≤◌, List, [], ◌∷◌, ◌++◌, take, length, get_or, slice_get, Option, Some, None, refl, sym, ◌∙◌, ap, subst, arith, inl, inr, ⊎_elim}
use Rattle.std.specs.Prelude.{◌↔◌, Contains}
use Rattle.std.specs.List.{AllByRecursion}
use Rattle.std.proofs.lemmas.Option.{slice_get-map, slice_get_within}
use Rattle.std.proofs.lemmas.Bool.{cases_lt}
use Rattle.std.specs.Option.{option_map}
use Rattle.std.proofs.lemmas.List.{length-map, take_more, take_all}
use Rattle.std.proofs.lemmas.List.Elements.{Contains-append_left, Contains-append_right, Contains-append_cases}
use Rattle.eq_base.specs.Tree.{Tree, node, head_of, size, nth_subtree}
use Rattle.eq_base.specs.Pattern.{PatternCell, fixed, variable, restricted}
use Rattle.eq_base.specs.Cells.{kind_of, root_cell}
use Rattle.eq_base.specs.declared.head.Head.{Head}
use Rattle.eq_base.specs.declared.head.Cell as cells
use Rattle.eq_base.specs.RuleList.{RuleList}
use Rattle.eq_base.specs.declared.rules.Equation.{Equation}
use Rattle.eq_base.proofs.Lists.{all_both, all_contained}
use Rattle.regularity.specs.WellFormed.{AreWellFormed}
use Rattle.regularity.specs.Looking.{IsPlaceOf}
use Rattle.match_tables.proofs.Places.{contains_from_place}
use Rattle.match_laws.specs.Items.{Item, ItemSet, Precedes, IsOrdered, IsCell, HasCell}
use Rattle.match_laws.specs.Demand.{left_sides_of}
use Rattle.match_tables.specs.Steps.{Moves, LeadsTo}
use Rattle.match_tables.specs.Moving.{AreItemsOf, MovesOn, AreMovedRoots}
use Rattle.match_tables.specs.declared.step.Step.{Step}

-- the cell of the code is that of the definitions
pub kind_of-root_cell : (p : Tree (PatternCell Head)) → kind_of (root_cell p) ≡ head_of p
kind_of-root_cell (node (fixed h) args) = refl
kind_of-root_cell (node (variable x) args) = refl
kind_of-root_cell (node (restricted x class) args) = refl

-- ---- order

contains_one : {X : Type 0} (x y : X) → Contains (y ∷ []) x → y ≡ x
contains_one x y (zero, lt, is) = is
contains_one x y (suc k, lt, is) = absurd (omega arith)

contains_it : {X : Type 0} (x : X) → Contains (x ∷ []) x
contains_it x = (0, omega arith, refl)

pub each_contained : {X : Type 0} (P : X → Type 0) (xs : List X) → ((x : X) → Contains xs x → P x) → AllByRecursion P xs
each_contained P [] f = tt
each_contained P (x ∷ xs) f = (f x (0, omega arith, refl), each_contained P xs (λ y c. f y (suc c.0, omega (arith, c.1), c.2)))

pub ordered-push : (items : ItemSet) (a : Item) → IsOrdered items → ((b : Item) → Contains items b → Precedes b a) → IsOrdered (items ++ a ∷ [])
ordered-push [] a o f = (tt, tt)
ordered-push (b ∷ items) a o f =
    (all_both (λ x. Precedes b x) items (a ∷ []) o.0 (f b (0, omega arith, refl), tt), ordered-push items a o.1 (λ x c. f x (suc c.0, omega (arith, c.1), c.2)))

pub contains-push : (items : ItemSet) (a b : Item) → Contains (items ++ a ∷ []) b → Contains items b ⊎ (a ≡ b)
contains-push items a b c = ⊎_elim (λ x. inl x) (λ y. inr (contains_one b a y)) (Contains-append_cases items (a ∷ []) b c)

pub push-contains : (items : ItemSet) (a b : Item) → Contains items b ⊎ (a ≡ b) → Contains (items ++ a ∷ []) b
push-contains items a b (inl x) = Contains-append_left items (a ∷ []) b x
push-contains items a b (inr e) = subst (Contains (items ++ a ∷ [])) e (Contains-append_right items (a ∷ []) a (contains_it a))

-- what stands before an element of an ordered list precedes it
pub ordered-take : (items : ItemSet) (k : ℕ) (d b : Item) → IsOrdered items → k < length items → Contains (take k items) b → Precedes b (get_or items k d)
ordered-take [] k d b o lt c = absurd (omega arith)
ordered-take (a ∷ items) zero d b o lt c = absurd (omega (arith, c.1))
ordered-take (a ∷ items) (suc k) d b o lt (zero, less, is) = subst (λ x. Precedes x (get_or items k d)) is (all_contained (λ x. Precedes a x) items (get_or items k d) o.0 (k, omega arith, same items k d (omega arith)))
  where
    same : (xs : List Item) (k : ℕ) (d : Item) → k < length xs → get_or xs k (get_or xs k d) ≡ get_or xs k d
    same [] k d lt = absurd (omega arith)
    same (x ∷ xs) zero d lt = refl
    same (x ∷ xs) (suc k) d lt = same xs k d (omega arith)
ordered-take (a ∷ items) (suc k) d b o lt (suc j, less, is) = ordered-take items k d b o.1 (omega arith) (j, omega (arith, less), is)

-- ---- the items behind roots

module _ (rules : RuleList) (step : Step) where
  pub cell-below : (e c : ℕ) (cell : PatternCell Head) → IsCell (left_sides_of rules) e c cell → e < length (left_sides_of rules)
  cell-below e c cell i = slice_get_within (left_sides_of rules) e i.left i.listed

  -- the items behind the roots of the first n left sides
  pub record RootsBelow (n : ℕ) (items : ItemSet) : Type 0 where
    pub ordered : IsOrdered items
    pub exactly : (e c : ℕ) → Contains items (e, c) ↔ (e < n) × (c ≡ 1) × MovesOn rules step e 0

  pub roots-none : (items : ItemSet) → items ≡ [] → RootsBelow 0 items
  roots-none items e = subst (RootsBelow 0) (sym e) (record { ordered = tt; exactly = λ e c. (λ x. absurd (omega (arith, x.1)), λ x. absurd (omega (arith, x.0))) })

  pub roots-push : (n : ℕ) (items : ItemSet) → RootsBelow n items → MovesOn rules step n 0 → RootsBelow (n + 1) (items ++ (n, 1) ∷ [])
  roots-push n items r m = record {
    ordered = ordered-push items (n, 1) r.ordered (λ b c. let x = (r.exactly b.0 b.1).0 c in inr (x.1, x.0));
    exactly = λ e c. (
      λ x. ⊎_elim
          (λ old. let y = (r.exactly e c).0 old in (omega (arith, y.0), y.1, y.2))
          (λ same. let first : n ≡ e = ap (λ (p : Item). p.0) same in let second : 1 ≡ c = ap (λ (p : Item). p.1) same in (omega arith, sym second, subst (λ k. MovesOn rules step k 0) first m))
          (contains-push items (n, 1) (e, c) x),
      λ x. push-contains items (n, 1) (e, c) (⊎_elim
          (λ less. inl ((r.exactly e c).1 (less, x.1, x.2)))
          (λ past. let first : n ≡ e = omega (arith, x.0) in let second : 1 ≡ c = sym x.1 in inr (cc))
          (cases_lt e n)),
    );
  }

  pub roots-pass : (n : ℕ) (items : ItemSet) → RootsBelow n items → (MovesOn rules step n 0 → ⊥) → RootsBelow (n + 1) items
  roots-pass n items r none = record {
    ordered = r.ordered;
    exactly = λ e c. (
      λ x. let y = (r.exactly e c).0 x in (omega (arith, y.0), y.1, y.2),
      λ x. ⊎_elim
          (λ less. (r.exactly e c).1 (less, x.1, x.2))
          (λ past. let same : e ≡ n = omega (arith, x.0) in absurd (none (subst (λ k. MovesOn rules step k 0) same x.2)))
          (cases_lt e n),
    );
  }

  pub roots-done : (n : ℕ) (items : ItemSet) → length (left_sides_of rules) ≤ n → RootsBelow n items → AreMovedRoots rules step items
  roots-done n items past r = record {
    ordered = r.ordered;
    exactly = λ e c. (λ x. let y = (r.exactly e c).0 x in (y.1, y.2), λ x. (r.exactly e c).1 (let below = cell-below e 0 x.1.cell x.1.is_cell in omega arith, x.0, x.1));
  }

  -- ---- the items behind others

  -- the items behind the roots, and behind those of the list
  pub record MovedFrom (done items : ItemSet) : Type 0 where
    pub ordered : IsOrdered items
    pub exactly : (e c : ℕ) → Contains items (e, c) ↔ ((c ≡ 1) × MovesOn rules step e 0) ⊎ ((b : ℕ) × (c ≡ suc b) × Contains done (e, b) × MovesOn rules step e b)

  pub moved-none : (items : ItemSet) → AreMovedRoots rules step items → MovedFrom [] items
  moved-none items r = record {
    ordered = r.ordered;
    exactly = λ e c. (λ x. inl ((r.exactly e c).0 x), λ x. ⊎_elim (λ y. (r.exactly e c).1 y) (λ y. absurd (let z = y.2.1 in omega arith)) x);
  }

  pub moved-push : (done items : ItemSet) (e b : ℕ) → MovedFrom done items → 0 < b → ((a : Item) → Contains done a → Precedes a (e, b)) → MovesOn rules step e b → MovedFrom (done ++ (e, b) ∷ []) (items ++ (e, suc b) ∷ [])
  moved-push done items e b m more after moves = record {
    ordered = ordered-push items (e, suc b) m.ordered (λ a c. ⊎_elim
        (λ root. inl (omega (arith, root.0)))
        (λ deep. ⊎_elim (λ less. inl (omega (arith, deep.1))) (λ same. inr (omega (arith, deep.1, same.0), same.1)) (after (a.0, deep.0) deep.2))
        ((m.exactly a.0 a.1).0 c));
    exactly = λ k c. (
      λ x. ⊎_elim
          (λ old. ⊎_elim (λ root. inl root) (λ deep. inr (deep.0, deep.1, push-contains done (e, b) (k, deep.0) (inl deep.2), deep.3)) ((m.exactly k c).0 old))
          (λ same. let first : e ≡ k = ap (λ (p : Item). p.0) same in let second : suc b ≡ c = ap (λ (p : Item). p.1) same in
          inr (b, sym second, push-contains done (e, b) (k, b) (inr (cc)), subst (λ n. MovesOn rules step n b) first moves))
          (contains-push items (e, suc b) (k, c) x),
      λ x. push-contains items (e, suc b) (k, c) (⊎_elim
          (λ root. inl ((m.exactly k c).1 (inl root)))
          (λ deep. ⊎_elim
          (λ old. inl ((m.exactly k c).1 (inr (deep.0, deep.1, old, deep.3))))
          (λ same. let first : e ≡ k = ap (λ (p : Item). p.0) same in let second : b ≡ deep.0 = ap (λ (p : Item). p.1) same in let third : suc b ≡ c = omega (arith, second, deep.1) in inr (cc))
          (contains-push done (e, b) (k, deep.0) deep.2))
          x),
    );
  }

  pub moved-pass : (done items : ItemSet) (e b : ℕ) → MovedFrom done items → (MovesOn rules step e b → ⊥) → MovedFrom (done ++ (e, b) ∷ []) items
  moved-pass done items e b m none = record {
    ordered = m.ordered;
    exactly = λ k c. (
      λ x. ⊎_elim (λ root. inl root) (λ deep. inr (deep.0, deep.1, push-contains done (e, b) (k, deep.0) (inl deep.2), deep.3)) ((m.exactly k c).0 x),
      λ x. ⊎_elim
          (λ root. (m.exactly k c).1 (inl root))
          (λ deep. ⊎_elim
          (λ old. (m.exactly k c).1 (inr (deep.0, deep.1, old, deep.3)))
          (λ same. let first : e ≡ k = ap (λ (p : Item). p.0) same in let second : b ≡ deep.0 = ap (λ (p : Item). p.1) same in
          absurd (none (subst (λ n. MovesOn rules step n b) (sym first) (subst (λ n. MovesOn rules step k n) (sym second) deep.3))))
          (contains-push done (e, b) (k, deep.0) deep.2))
          x,
    );
  }

  pub moved-done : (all items : ItemSet) → AreItemsOf rules all → MovedFrom all items → LeadsTo rules all step items
  moved-done all items are m = record {
    ordered = m.ordered;
    exactly = λ e c. (
      λ x. ⊎_elim
          (λ root. record { before = 0; further = root.0; this = record { held = ((root.1.cell, root.1.is_cell), inl refl); cell = root.1.cell; is_cell = root.1.is_cell; moves = root.1.moves }; there = subst (HasCell (left_sides_of rules) e) (sym root.0) root.1.there })
          (λ deep. record { before = deep.0; further = deep.1; this = record { held = (are.there e deep.0 deep.2, inr deep.2); cell = deep.3.cell; is_cell = deep.3.is_cell; moves = deep.3.moves }; there = subst (HasCell (left_sides_of rules) e) (sym deep.1) deep.3.there })
          ((m.exactly e c).0 x),
      λ f. (m.exactly e c).1
          (let on : MovesOn rules step e f.before = record { cell = f.this.cell; is_cell = f.this.is_cell; moves = f.this.moves; there = subst (HasCell (left_sides_of rules) e) f.further f.there } in
          ⊎_elim
          (λ root. inl (f.further ∙ ap suc root, subst (MovesOn rules step e) root on))
          (λ deep. inr (f.before, f.further, deep, on))
          f.this.held.1),
    );
  }

-- ---- cells of equations

module _ (rules : RuleList) (e : ℕ) (equation : Equation) (listed : slice_get rules.equations e ≡ Some equation) where
  pub listed-left : slice_get (left_sides_of rules) e ≡ Some equation.left
  listed-left = slice_get-map (λ (d : Equation). d.left) rules.equations e ∙ ap (option_map (λ (d : Equation). d.left)) listed

  pub place-there : (c : ℕ) → IsPlaceOf rules.equations e c → c < size equation.left
  place-there c p = let same : p.equation ≡ equation = let l = p.listed in cc in subst (λ (d : Equation). c < size d.left) same p.there

  pub cell-of : (c : ℕ) → c < size equation.left → IsCell (left_sides_of rules) e c (head_of (nth_subtree equation.left c))
  cell-of c lt = record { left = equation.left; listed = listed-left; there = lt; stands = refl }

  -- what the code reads there
  pub read-cell : (c : ℕ) (cell : PatternCell Head) (code : cells.Cell) → code ≡ root_cell (nth_subtree equation.left c) → IsCell (left_sides_of rules) e c cell → kind_of code ≡ cell
  read-cell c cell code is i =
      let same : i.left ≡ equation.left = let l = i.listed in let m = listed-left in cc in
      ap kind_of is ∙ kind_of-root_cell (nth_subtree equation.left c) ∙ subst (λ (p : Tree (PatternCell Head)). head_of (nth_subtree p c) ≡ cell) same i.stands

  pub on-moves : (classes : List (List Head)) → classes ≡ rules.classes → (step : Step) (c : ℕ) (code : cells.Cell) → suc c < size equation.left → code ≡ root_cell (nth_subtree equation.left c) → Moves classes step (kind_of code) → MovesOn rules step e c
  on-moves classes same step c code lt is m = record {
    cell = head_of (nth_subtree equation.left c);
    is_cell = cell-of c (omega arith);
    moves = subst (λ cs. Moves cs step (head_of (nth_subtree equation.left c))) same (subst (Moves classes step) (ap kind_of is ∙ kind_of-root_cell (nth_subtree equation.left c)) m);
    there = (head_of (nth_subtree equation.left (suc c)), cell-of (suc c) lt);
  }

  pub moves-read : (classes : List (List Head)) → classes ≡ rules.classes → (step : Step) (c : ℕ) (code : cells.Cell) → code ≡ root_cell (nth_subtree equation.left c) → MovesOn rules step e c → Moves classes step (kind_of code)
  moves-read classes same step c code is m = subst (λ cs. Moves cs step (kind_of code)) (sym same) (subst (Moves rules.classes step) (sym (read-cell c m.cell code is m.is_cell)) m.moves)

  pub moves-below : (step : Step) (c : ℕ) → MovesOn rules step e c → suc c < size equation.left
  moves-below step c m =
      let i = m.there.1 in
      let same : i.left ≡ equation.left = let l = i.listed in let l' = listed-left in cc in
      subst (λ (p : Tree (PatternCell Head)). suc c < size p) same i.there

  -- the root is a place
  pub root-place : IsPlaceOf rules.equations e 0
  root-place = record { equation = equation; listed = listed; there = positive equation.left }
    where
      positive : (p : Tree (PatternCell Head)) → 0 < size p
      positive (node c ps) = omega arith

-- the element at an index
pub element-at : {X : Type 0} (xs : List X) (k : ℕ) → k < length xs → (x : X) × (slice_get xs k ≡ Some x)
element-at [] k lt = absurd (omega arith)
element-at (x ∷ xs) zero lt = (x, refl)
element-at (x ∷ xs) (suc k) lt = element-at xs k (omega arith)

pub length-left_sides_of : (rules : RuleList) → length (left_sides_of rules) ≡ length rules.equations
length-left_sides_of rules = length-map rules.equations (λ (e : Equation). e.left)

module _ (rules : RuleList) where
  -- the equation of a left side
  pub record Source (e : ℕ) (left : Tree (PatternCell Head)) : Type 0 where
    pub equation : Equation
    pub listed : slice_get rules.equations e ≡ Some equation
    pub is : equation.left ≡ left

  pub source : (e : ℕ) (left : Tree (PatternCell Head)) → slice_get (left_sides_of rules) e ≡ Some left → Source e left
  source e left listed = by (slice_get rules.equations e) refl (sym (slice_get-map (λ (d : Equation). d.left) rules.equations e) ∙ listed)
    where
      by : (o : Option Equation) → slice_get rules.equations e ≡ o → option_map (λ (d : Equation). d.left) o ≡ Some left → Source e left
      by None s l = absurd (cc)
      by (Some equation) s l = record { equation = equation; listed = s; is = cc }

  -- a cell of a left side is a place
  pub place-of : (e c : ℕ) → HasCell (left_sides_of rules) e c → IsPlaceOf rules.equations e c
  place-of e c h =
      let s = source e h.1.left h.1.listed in
      record { equation = s.equation; listed = s.listed; there = subst (λ (p : Tree (PatternCell Head)). c < size p) (sym s.is) h.1.there }

  -- cells have small numbers
  pub cell-small : AreWellFormed rules → (e c : ℕ) → HasCell (left_sides_of rules) e c → c < 255
  cell-small w e c h =
      let p = place-of e c h in
      let x = contains_from_place rules.equations e p.equation p.listed in
      let f = w.each x.0 p.equation x.1 in
      let small : size p.equation.left ≤ 255 = subst (λ (d : Equation). size d.left ≤ 255) x.2 f.left_size in
      omega (arith, p.there, small)

-- ---- one more item of the list

pub get-contained : {X : Type 0} (xs : List X) (k : ℕ) (d : X) → k < length xs → Contains xs (get_or xs k d)
get-contained xs k d lt = (k, lt, same xs k d lt)
  where
    same : {X : Type 0} (xs : List X) (k : ℕ) (d : X) → k < length xs → get_or xs k (get_or xs k d) ≡ get_or xs k d
    same [] k d lt = absurd (omega arith)
    same (x ∷ xs) zero d lt = refl
    same (x ∷ xs) (suc k) d lt = same xs k d (omega arith)

module _ (rules : RuleList) (step : Step) (all items : ItemSet) (k : ℕ) (are : AreItemsOf rules all) (lt : k < length all) (m : MovedFrom rules step (take k all) items) where
  abbrev item : Item
  item = get_or all k (0, 0)

  more : take (k + 1) all ≡ take k all ++ item ∷ []
  more = take_more all k (0, 0) lt

  pub step-push : MovesOn rules step item.0 item.1 → MovedFrom rules step (take (k + 1) all) (items ++ (item.0, item.1 + 1) ∷ [])
  step-push moves =
      let next : suc item.1 ≡ item.1 + 1 = omega arith in
      rw more (subst (λ n. MovedFrom rules step (take k all ++ item ∷ []) (items ++ (item.0, n) ∷ [])) next
      (moved-push rules step (take k all) items item.0 item.1 m (are.below item.0 item.1 (get-contained all k (0, 0) lt)) (λ a c. ordered-take all k (0, 0) a are.ordered lt c) moves))

  pub step-pass : (MovesOn rules step item.0 item.1 → ⊥) → MovedFrom rules step (take (k + 1) all) items
  step-pass none = rw more (moved-pass rules step (take k all) items item.0 item.1 m none)

  pub item-cell : HasCell (left_sides_of rules) item.0 item.1
  item-cell = are.there item.0 item.1 (get-contained all k (0, 0) lt)

pub step-done : (rules : RuleList) (step : Step) (all items : ItemSet) (k : ℕ) → AreItemsOf rules all → length all ≤ k → MovedFrom rules step (take k all) items → LeadsTo rules all step items
step-done rules step all items k are past m =
    let whole : take k all ≡ all = take_all k all past in
    moved-done rules step all items are (subst (λ xs. MovedFrom rules step xs items) whole m)
