-- The first equation whose left side a step completes, as it is looked for.
use Rattle.std.proofs.Common.{◌≡◌, ◌⊎◌, ℕ, ◌+◌, ◌<◌, ◌≤◌, List, [], ◌∷◌, ◌++◌, take, length, get_or, slice_get, Option, Some, None, refl, sym, ◌∙◌, ap, subst, arith, inl, inr, ⊎_elim}
use Rattle.std.proofs.lemmas.Bool.{cases_lt}
use Rattle.std.proofs.lemmas.Option.{slice_get_within, slice_get-get_or}
use Rattle.std.proofs.lemmas.List.{take_more, take_all}
use Rattle.eq_base.specs.Tree.{size, nth_subtree, head_of}
use Rattle.eq_base.specs.Pattern.{PatternCell, IsTested}
use Rattle.eq_base.specs.Cells.{kind_of, root_cell}
use Rattle.eq_base.specs.declared.head.Head.{Head}
use Rattle.eq_base.specs.declared.head.Cell as cells
use Rattle.eq_base.specs.RuleList.{RuleList}
use Rattle.eq_base.specs.declared.rules.Equation.{Equation}
use Rattle.match_laws.specs.Items.{Item, ItemSet, IsCell, IsLastTested}
use Rattle.match_laws.specs.Demand.{left_sides_of}
use Rattle.match_tables.specs.Steps.{Moves}
use Rattle.match_tables.specs.Completing.{IsEnd, AreEnds, CompletesAt, IsCompletedBy, IsAnswered, IsLess}
use Rattle.match_tables.specs.declared.completed.End.{End}
use Rattle.match_tables.specs.declared.step.Step.{Step}
use Rattle.match_tables.proofs.Moved.{contains-push, push-contains, cell-of, read-cell, kind_of-root_cell, length-left_sides_of}

module _ (rules : RuleList) (step : Step) where
  -- ---- one cell

  -- the last tested cell is one
  pub end-cell : (e c : ℕ) (end : End) → IsEnd rules e end → CompletesAt rules step e c → c ≡ end.cell
  end-cell e c end is x =
      ⊎_elim
      (λ less. absurd (x.last end.cell is.cell less is.is_cell is.tested))
      (λ past. ⊎_elim (λ more. absurd (is.last c x.cell more x.is_cell x.tested)) (λ le. omega arith) (cases_lt end.cell c))
      (cases_lt c end.cell)

  same-cell : (e c : ℕ) (p q : PatternCell Head) → IsCell (left_sides_of rules) e c p → IsCell (left_sides_of rules) e c q → p ≡ q
  same-cell e c p q i j =
      let same : i.left ≡ j.left = let l = i.listed in let m = j.listed in cc in
      sym i.stands ∙ ap (λ t. head_of (nth_subtree t c)) same ∙ j.stands

  pub at-end : (e c : ℕ) (end : End) (cell : PatternCell Head) → IsEnd rules e end → end.cell ≡ c → IsCell (left_sides_of rules) e c cell → Moves rules.classes step cell → CompletesAt rules step e c
  at-end e c end cell is same i m =
      let j : IsCell (left_sides_of rules) e end.cell cell = subst (λ n. IsCell (left_sides_of rules) e n cell) (sym same) i in
      record {
        cell = cell;
        is_cell = i;
        tested = subst IsTested (same-cell e end.cell is.cell cell is.is_cell j) is.tested;
        moves = m;
        last = subst (λ n. IsLastTested (left_sides_of rules) e n) same is.last;
      }

  -- ---- the first of some

  pub first-none : (items : ItemSet) → items ≡ [] → ((e : ℕ) → CompletesAt rules step e 0 → ⊥) → IsAnswered rules items step None
  first-none items is none e c x =
      ⊎_elim
      (λ z. none e (subst (CompletesAt rules step e) z x.1))
      (λ y. let long : length items ≡ 0 = ap length is in omega (arith, y.1, long))
      x.0

  pub first-root : (e : ℕ) → CompletesAt rules step e 0 → ((k : ℕ) → k < e → CompletesAt rules step k 0 → ⊥) → IsAnswered rules [] step (Some e)
  first-root e x before = (
    (0, (inl refl, x)),
    λ k c less y. ⊎_elim (λ z. before k less (subst (CompletesAt rules step k) z y.1)) (λ w. absurd (omega (arith, w.1))) y.0,
  )

  old-or-item : (done : ItemSet) (e b k c : ℕ) → IsCompletedBy rules (done ++ (e, b) ∷ []) step k c → IsCompletedBy rules done step k c ⊎ ((e ≡ k) × (b ≡ c))
  old-or-item done e b k c x =
      ⊎_elim
      (λ z. inl (inl z, x.1))
      (λ y. ⊎_elim (λ old. inl (inr old, x.1)) (λ same. inr (ap (λ (p : Item). p.0) same, ap (λ (p : Item). p.1) same)) (contains-push done (e, b) (k, c) y))
      x.0

  still : (done : ItemSet) (e b k c : ℕ) → IsCompletedBy rules done step k c → IsCompletedBy rules (done ++ (e, b) ∷ []) step k c
  still done e b k c x = (⊎_elim (λ z. inl z) (λ y. inr (push-contains done (e, b) (k, c) (inl y))) x.0, x.1)

  pub first-take : (done : ItemSet) (e b : ℕ) (first : Option ℕ) → IsAnswered rules done step first → IsLess e first → CompletesAt rules step e b → IsAnswered rules (done ++ (e, b) ∷ []) step (Some e)
  first-take done e b first a less x = (
    (b, (inr (push-contains done (e, b) (e, b) (inr refl)), x)),
    λ k c before y. ⊎_elim (λ old. not_old first a less k c before old) (λ same. absurd (let z = same.0 in omega arith)) (old-or-item done e b k c y),
  )
    where
      not_old : (first : Option ℕ) → IsAnswered rules done step first → IsLess e first → (k c : ℕ) → k < e → IsCompletedBy rules done step k c → ⊥
      not_old None a less k c before y = a k c y
      not_old (Some f) a less k c before y = a.1 k c (omega arith) y

  pub first-pass : (done : ItemSet) (e b : ℕ) (first : Option ℕ) → IsAnswered rules done step first → (IsLess e first → CompletesAt rules step e b → ⊥) → IsAnswered rules (done ++ (e, b) ∷ []) step first
  first-pass done e b None a none = λ k c y. ⊎_elim (λ old. a k c old) (λ same. none tt (subst (λ n. CompletesAt rules step n b) (sym same.0) (subst (CompletesAt rules step k) (sym same.1) y.1))) (old-or-item done e b k c y)
  first-pass done e b (Some f) a none = (
    (a.0.0, still done e b f a.0.0 a.0.1),
    λ k c less y. ⊎_elim (λ old. a.1 k c less old) (λ same. none (let z = same.0 in omega arith) (subst (λ n. CompletesAt rules step n b) (sym same.0) (subst (CompletesAt rules step k) (sym same.1) y.1))) (old-or-item done e b k c y),
  )

-- ---- as the code does it

module _ (rules : RuleList) (ends : List End) (are : AreEnds rules ends) where
  pub end-at : (e : ℕ) (d : End) → e < length rules.equations → IsEnd rules e (get_or ends e d)
  end-at e d lt =
      let inside : e < length ends = omega (arith, are.lengths, length-left_sides_of rules) in
      are.each e (get_or ends e d) (slice_get-get_or ends e d inside)

  module _ (step : Step) (e c : ℕ) (equation : Equation) (listed : slice_get rules.equations e ≡ Some equation) (d : End) where
    lt : e < length rules.equations
    lt = slice_get_within rules.equations e equation listed

    pub completes-so : (classes : List (List Head)) → classes ≡ rules.classes → (code : cells.Cell) → (get_or ends e d).cell ≡ c → c < size equation.left → code ≡ root_cell (nth_subtree equation.left c) → Moves classes step (kind_of code) → CompletesAt rules step e c
    completes-so classes theirs code same inside is m =
        at-end rules step e c (get_or ends e d) (head_of (nth_subtree equation.left c)) (end-at e d lt) same (cell-of rules e equation listed c inside)
        (subst (λ cs. Moves cs step (head_of (nth_subtree equation.left c))) theirs (subst (Moves classes step) (ap kind_of is ∙ kind_of-root_cell (nth_subtree equation.left c)) m))

    pub completed-moves : (classes : List (List Head)) → classes ≡ rules.classes → (code : cells.Cell) → code ≡ root_cell (nth_subtree equation.left c) → CompletesAt rules step e c → Moves classes step (kind_of code)
    completed-moves classes theirs code is x = subst (λ cs. Moves cs step (kind_of code)) (sym theirs) (subst (Moves rules.classes step) (sym (read-cell rules e equation listed c x.cell code is x.is_cell)) x.moves)

  pub completed-end : (step : Step) (e c : ℕ) (d : End) → e < length rules.equations → CompletesAt rules step e c → (get_or ends e d).cell ≡ c
  completed-end step e c d lt x = sym (end-cell rules step e c (get_or ends e d) (end-at e d lt) x)

  -- a completed left side is that of an equation
  pub completes-below : (step : Step) (e c : ℕ) → CompletesAt rules step e c → e < length rules.equations
  completes-below step e c x = let z = slice_get_within (left_sides_of rules) e x.is_cell.left x.is_cell.listed in omega (arith, z, length-left_sides_of rules)

module _ (rules : RuleList) (step : Step) (all : ItemSet) (k : ℕ) (lt : k < length all) (first : Option ℕ) (a : IsAnswered rules (take k all) step first) where
  abbrev item : Item
  item = get_or all k (0, 0)

  pub answer-take : IsLess item.0 first → CompletesAt rules step item.0 item.1 → IsAnswered rules (take (k + 1) all) step (Some item.0)
  answer-take less x = rw (take_more all k (0, 0) lt) (first-take rules step (take k all) item.0 item.1 first a less x)

  pub answer-pass : (IsLess item.0 first → CompletesAt rules step item.0 item.1 → ⊥) → IsAnswered rules (take (k + 1) all) step first
  answer-pass none = rw (take_more all k (0, 0) lt) (first-pass rules step (take k all) item.0 item.1 first a none)

pub answer-all : (rules : RuleList) (step : Step) (all : ItemSet) (k : ℕ) (first : Option ℕ) → length all ≤ k → IsAnswered rules (take k all) step first → IsAnswered rules all step first
answer-all rules step all k first past a = subst (λ xs. IsAnswered rules xs step first) (take_all k all past) a
