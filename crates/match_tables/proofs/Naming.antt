-- The items of a set, one after another: what they want, and what they name.
use Rattle.std.proofs.Common.{◌≡◌, ℕ, ◌+◌, ◌<◌, ◌≤◌, List, [], ◌∷◌, take, length, get_or, slice_get, Some, refl, sym, ◌∙◌, ap, subst, arith, inr, ⊎_elim}
use Rattle.std.specs.Prelude.{Contains}
use Rattle.std.proofs.lemmas.List.{take_more, take_all}
use Rattle.eq_base.specs.Tree.{head_of, nth_subtree}
use Rattle.eq_base.specs.Pattern.{PatternCell, IsTested}
use Rattle.eq_base.specs.Cells.{kind_of, root_cell}
use Rattle.eq_base.specs.RuleList.{RuleList}
use Rattle.eq_base.specs.declared.head.Head.{Head}
use Rattle.eq_base.specs.declared.head.Cell as cells
use Rattle.eq_base.specs.declared.rules.Equation.{Equation}
use Rattle.match_laws.specs.Items.{Item, ItemSet, IsCell, WantsRead, WantsSkip}
use Rattle.match_laws.specs.Demand.{left_sides_of}
use Rattle.match_tables.specs.Moving.{AreItemsOf}
use Rattle.match_tables.specs.Rows.{HasNamed, HasAll}
use Rattle.match_tables.proofs.Moved.{contains-push, get-contained, read-cell, cell-of, place-of, place-there, kind_of-root_cell}
use Rattle.regularity.specs.Looking.{IsPlaceOf}
use Rattle.std.proofs.lemmas.Option.{slice_get_within}

-- each item has the property
abbrev pub EachOf : (ℕ → ℕ → Type 0) → ItemSet → Type 0
EachOf P items = (e c : ℕ) → Contains items (e, c) → P e c

module _ (P : ℕ → ℕ → Type 0) (all : ItemSet) where
  pub each-none : EachOf P (take 0 all)
  each-none e c x = absurd (omega (arith, x.1))

  pub each-more : (k : ℕ) → k < length all → EachOf P (take k all) → (let item = get_or all k (0, 0) in P item.0 item.1) → EachOf P (take (k + 1) all)
  each-more k lt f this e c x =
      ⊎_elim
      (λ old. f e c old)
      (λ same. let first : (get_or all k (0, 0)).0 ≡ e = ap (λ (p : Item). p.0) same in let second : (get_or all k (0, 0)).1 ≡ c = ap (λ (p : Item). p.1) same in
      subst (λ n. P n c) first (subst (P (get_or all k (0, 0)).0) second this))
      (contains-push (take k all) (get_or all k (0, 0)) (e, c) (subst (λ xs. Contains xs (e, c)) (take_more all k (0, 0) lt) x))

  pub each-all : (k : ℕ) → length all ≤ k → EachOf P (take k all) → EachOf P all
  each-all k past f e c x = f e c (subst (λ xs. Contains xs (e, c)) (sym (take_all k all past)) x)

module _ (rules : RuleList) where
  -- a plain variable stands in the cell
  abbrev pub IsUntested : ℕ → ℕ → Type 0
  IsUntested e c = (cell : PatternCell Head) → IsCell (left_sides_of rules) e c cell → IsTested cell → ⊥

  -- each head that the cell names stands in the list
  abbrev pub NamesIn : List Head → ℕ → ℕ → Type 0
  NamesIn heads e c = (cell : PatternCell Head) → IsCell (left_sides_of rules) e c cell → HasNamed rules.classes cell heads

  module _ (e c : ℕ) (equation : Equation) (listed : slice_get rules.equations e ≡ Some equation) (code : cells.Cell) (is : code ≡ root_cell (nth_subtree equation.left c)) where
    pub untested : (IsTested (kind_of code) → ⊥) → IsUntested e c
    untested none cell i t = none (subst IsTested (sym (read-cell rules e equation listed c cell code is i)) t)

    pub names-in : (classes : List (List Head)) → classes ≡ rules.classes → (heads : List Head) → HasNamed classes (kind_of code) heads → NamesIn heads e c
    names-in classes same heads n cell i =
        subst (λ cs. HasNamed cs cell heads) same (subst (λ d. HasNamed classes d heads) (read-cell rules e equation listed c cell code is i) n)

  pub still-named : (old new : List Head) (items : ItemSet) → HasAll old new → EachOf (NamesIn old) items → EachOf (NamesIn new) items
  still-named old new items keeps f e c x cell i h n = keeps h (f e c x cell i h n)

  module _ (items : ItemSet) (are : AreItemsOf rules items) where
    module _ (k : ℕ) (lt : k < length items) where
      abbrev item : Item
      item = get_or items k (0, 0)

      held : Contains items (item.0, item.1)
      held = get-contained items k (0, 0) lt

      pub item-place : IsPlaceOf rules.equations item.0 item.1
      item-place = place-of rules item.0 item.1 (are.there item.0 item.1 held)

      pub item-equation : item.0 < length rules.equations
      item-equation = slice_get_within rules.equations item.0 item-place.equation item-place.listed

      pub wants-read : (equation : Equation) → slice_get rules.equations item.0 ≡ Some equation → (code : cells.Cell) → code ≡ root_cell (nth_subtree equation.left item.1) → IsTested (kind_of code) → WantsRead (left_sides_of rules) items
      wants-read equation listed code is t =
          let i = cell-of rules item.0 equation listed item.1 (place-there rules item.0 equation listed item.1 item-place) in
          record {
            e = item.0;
            c = item.1;
            below = are.below item.0 item.1 held;
            waiting = record {
              held = ((head_of (nth_subtree equation.left item.1), i), inr held);
              cell = head_of (nth_subtree equation.left item.1);
              is_cell = i;
              tested = subst IsTested (ap kind_of is ∙ kind_of-root_cell (nth_subtree equation.left item.1)) t;
            };
          }

    pub wants-skip : 0 < length items → EachOf IsUntested items → WantsSkip (left_sides_of rules) items
    wants-skip some f = record {
      some = some;
      no_read = λ r. ⊎_elim
          (λ z. omega (arith, z, r.below))
          (λ x. f r.e r.c x r.waiting.cell r.waiting.is_cell r.waiting.tested)
          r.waiting.held.1;
    }

pub empty-list : {X : Type 0} (xs : List X) → length xs ≡ 0 → xs ≡ []
empty-list [] e = refl
empty-list (x ∷ xs) e = absurd (omega (arith, e))
