-- Where the symbols lead from the roots alone, and the states as they are made.
use Rattle.std.proofs.Common.{◌≡◌, ℕ, ◌+◌, ◌<◌, ◌≤◌, List, [], ◌∷◌, ◌++◌, length, slice_get, Some, sym, ◌∙◌, subst, arith, ⊎_elim}
use Rattle.std.proofs.lemmas.Bool.{cases_lt}
use Rattle.std.proofs.lemmas.Option.{slice_get_within}
use Rattle.eq_base.specs.Tree.{nth_subtree}
use Rattle.eq_base.specs.Pattern.{PatternCell, Meets}
use Rattle.eq_base.specs.Cells.{kind_of, root_cell}
use Rattle.eq_base.specs.Meeting.{in_class_of}
use Rattle.eq_base.specs.RuleList.{RuleList}
use Rattle.eq_base.specs.declared.head.Head.{Head}
use Rattle.eq_base.specs.declared.head.Head.TheVariants.{Symbol}
use Rattle.eq_base.specs.declared.head.Cell as cells
use Rattle.eq_base.specs.declared.rules.Equation.{Equation}
use Rattle.regularity.specs.WellFormed.{AreWellFormed}
use Rattle.match_laws.specs.Items.{ItemSet, IsCell, IsMet}
use Rattle.match_laws.specs.Demand.{left_sides_of}
use Rattle.match_tables.specs.Searching.{Extends}
use Rattle.match_tables.specs.Rows.{IsRight, IsRow}
use Rattle.match_tables.specs.Tabled.{AreRows, IsBelow, AreRootsBelow}
use Rattle.match_tables.specs.declared.step.Step.TheVariants.{Read}
use Rattle.match_tables.specs.declared.search.Move.{Move}
use Rattle.match_tables.specs.declared.row.State.{State}
use Rattle.match_tables.proofs.Places.{old_or_last}
use Rattle.match_tables.proofs.Moved.{element-at, read-cell, length-left_sides_of}
use Rattle.match_tables.proofs.Named.{root-symbol}
use Rattle.match_tables.proofs.Extending.{extends-right, extends-row}
use Rattle.match_tables.proofs.Fresh.{same-set}

module _ (rules : RuleList) where
  -- the symbols at the roots of the first n left sides are below the end
  abbrev pub FirstBelow : ℕ → ℕ → Type 0
  FirstBelow n end = (e : ℕ) (cell : PatternCell Head) → e < n → IsCell (left_sides_of rules) e 0 cell → IsBelow cell end

  pub below-more : (n old new own : ℕ) (equation : Equation) (code : cells.Cell) → FirstBelow n old → old ≤ new → own ≤ new → slice_get rules.equations n ≡ Some equation → code ≡ root_cell (nth_subtree equation.left 0) → IsBelow (kind_of code) own → FirstBelow (n + 1) new
  below-more n old new own equation code f more enough listed is below e cell lt i s at =
      ⊎_elim
      (λ less. let x = f e cell less i s at in omega arith)
      (λ past.
      let here : e ≡ n = omega arith in
      let same = read-cell rules n equation listed 0 cell code is (subst (λ k. IsCell (left_sides_of rules) k 0 cell) here i) in
      let x = below s (same ∙ at) in omega arith)
      (cases_lt e n)

  pub below-all : (n end : ℕ) → length rules.equations ≤ n → FirstBelow n end → AreRootsBelow rules end
  below-all n end past f e cell i = f e cell (let lt = slice_get_within (left_sides_of rules) e i.left i.listed in omega (arith, lt, length-left_sides_of rules)) i

  pub no-root : AreWellFormed rules → (end symbol : ℕ) → AreRootsBelow rules end → end ≤ symbol → (e : ℕ) → IsMet (in_class_of rules.classes) (left_sides_of rules) [] (Symbol symbol) e 0 → ⊥
  no-root w end symbol below past e m =
      let r = root-symbol rules w e m.cell m.is_cell in
      let meets : Symbol r.0 ≡ Symbol symbol = subst (λ d. Meets (in_class_of rules.classes) d (Symbol symbol)) r.1 m.meets in
      let same : r.0 ≡ symbol = cc in
      let lt = below e m.cell m.is_cell r.0 r.1 in
      omega (arith, lt, same)

  -- the first symbols lead where their moves say
  abbrev pub RootsRight : List ItemSet → List Move → Type 0
  RootsRight sets roots = (symbol : ℕ) (to : Move) → slice_get roots symbol ≡ Some to → IsRight rules sets [] (Read (Symbol symbol)) to

  module _ (old new : List ItemSet) (e : Extends old new) where
    pub roots-push : (roots : List Move) (n : ℕ) (to : Move) → length roots ≡ n → RootsRight old roots → IsRight rules new [] (Read (Symbol n)) to → RootsRight new (roots ++ to ∷ [])
    roots-push roots n to is f r symbol move at =
        ⊎_elim
        (λ before. extends-right rules old new e [] (Read (Symbol symbol)) move (f symbol move before))
        (λ last. subst (λ k. IsRight rules new [] (Read (Symbol k)) move) (sym (last.0 ∙ is)) (subst (IsRight rules new [] (Read (Symbol n))) last.1 r))
        (old_or_last roots to symbol move at)

    pub rows-push : (states : List State) (row : State) → length states < length old → AreRows rules old states → ((items : ItemSet) → slice_get old (length states) ≡ Some items → IsRow rules new items row) → AreRows rules new (states ++ row ∷ [])
    rows-push states row lt rows this = record {
      each = λ state own items at here. ⊎_elim
          (λ before.
          let within = slice_get_within states state own before in
          let set = element-at old state (omega (arith, within)) in
          extends-row rules old new e items own (rows.each state own items before (subst (λ xs. slice_get old state ≡ Some xs) (same-set new state set.0 items (e state set.0 set.1) here) set.1)))
          (λ last.
          let set = element-at old (length states) lt in
          let stands : slice_get new (length states) ≡ Some items = subst (λ k. slice_get new k ≡ Some items) last.0 here in
          let same = same-set new (length states) set.0 items (e (length states) set.0 set.1) stands in
          subst (IsRow rules new items) last.1 (subst (λ xs. IsRow rules new xs row) same (this set.0 set.1)))
          (old_or_last states row state own at);
    }

pub no-rows : (rules : RuleList) (sets : List ItemSet) → AreRows rules sets []
no-rows rules sets = record { each = λ state row items at here. absurd (let lt = slice_get_within [] state row at in omega (arith, lt)) }
