-- Heads that the cells of items name, and the other heads of each symbol class.
use Rattle.std.proofs.Common.{◌≡◌, ◌⊎◌, ℕ, ◌<◌, Bool, true, false, ◌&&◌, List, length, slice_get, Option, Some, None, refl, sym, ◌∙◌, ap, subst, arith, inl, inr, ⊎_elim}
use Rattle.std.specs.Prelude.{Contains, IsTrue}
use Rattle.std.proofs.lemmas.Bool.{cases_lt, eqb-true, eq-eqb}
use Rattle.std.proofs.lemmas.Option.{slice_get_within}
use Rattle.eq_base.specs.Tree.{Tree, node, head_of, nth_subtree}
use Rattle.eq_base.specs.Pattern.{PatternCell, fixed, variable, restricted, IsTested, Meets}
use Rattle.eq_base.specs.Meeting.{in_symbol_class, same_head, in_class_of}
use Rattle.eq_base.specs.RuleList.{RuleList}
use Rattle.eq_base.specs.declared.head.Head.{Head}
use Rattle.eq_base.specs.declared.head.Head.TheVariants.{Symbol, Numeral, Atom, Text}
use Rattle.eq_base.proofs.ClassMembers.{same_head_decides, symbol_class}
use Rattle.regularity.specs.WellFormed.{AreWellFormed}
use Rattle.match_laws.specs.Items.{ItemSet, IsCell}
use Rattle.match_laws.specs.Demand.{left_sides_of}
use Rattle.match_tables.specs.Steps.{Moves, LeadsTo}
use Rattle.match_tables.specs.Completing.{IsCompletedBy, IsAnswered}
use Rattle.match_tables.specs.Rows.{Names, HaveNamed, MeetsNone, IsRight, IsRow}
use Rattle.match_tables.specs.Tabled.{IsOnHead}
use Rattle.match_tables.specs.declared.row.State.{State}
use Rattle.match_tables.specs.declared.step.Step.{Step}
use Rattle.match_tables.specs.declared.step.Step.TheVariants.{Read, Other}
use Rattle.match_tables.specs.declared.search.Move.{Move}
use Rattle.match_tables.proofs.Moved.{source}
use Rattle.match_tables.proofs.Places.{contains_from_place}

-- the head is a literal of the symbol class with this number
abbrev pub IsLiteralOf : ℕ → Head → Type 0
IsLiteralOf class (Symbol s) = ⊥
IsLiteralOf class (Numeral n) = class ≡ 0
IsLiteralOf class (Atom n) = class ≡ 1
IsLiteralOf class (Text n) = class ≡ 3

-- ---- one cell

module _ (classes : List (List Head)) where
  as_symbols : (class : ℕ) (h : Head) → class < 4 → in_class_of classes class h ≡ in_symbol_class class h
  as_symbols class h lt = symbol_class same_head same_head_decides in_symbol_class classes class h lt

  literal-small : (class : ℕ) (h : Head) → IsLiteralOf class h → class < 4
  literal-small class (Symbol s) l = absurd l
  literal-small class (Numeral n) l = omega (arith, l)
  literal-small class (Atom n) l = omega (arith, l)
  literal-small class (Text n) l = omega (arith, l)

  -- a literal is in its symbol class, and in no other
  literal-in : (class : ℕ) (h : Head) → IsLiteralOf class h → in_symbol_class class h ≡ true
  literal-in class (Symbol s) l = absurd l
  literal-in class (Numeral n) l = eq-eqb class 0 l
  literal-in class (Atom n) l = eq-eqb class 1 l
  literal-in class (Text n) l = eq-eqb class 3 l

  literal-only : (class other : ℕ) (h : Head) → IsLiteralOf class h → in_symbol_class other h ≡ true → other ≡ class
  literal-only class other (Symbol s) l e = absurd l
  literal-only class other (Numeral n) l e = eqb-true other 0 e ∙ sym l
  literal-only class other (Atom n) l e = eqb-true other 1 e ∙ sym l
  literal-only class other (Text n) l e = eqb-true other 3 e ∙ sym l

  other-read : (class : ℕ) (h : Head) → IsLiteralOf class h → (cell : PatternCell Head) → Moves classes (Other class) cell → Moves classes (Read h) cell
  other-read class h l (fixed g) (x, e) = absurd (cc)
  other-read class h l (variable y) (x, e) = absurd (cc)
  other-read class h l (restricted y k) (x, e) =
      let same : k ≡ class = cc in
      (tt, subst (λ n. IsTrue (in_class_of classes n h)) (sym same) (as_symbols class h (literal-small class h l) ∙ literal-in class h l))

  read-other : (class : ℕ) (h : Head) → IsLiteralOf class h → (cell : PatternCell Head) → (Names classes cell h → ⊥) → Moves classes (Read h) cell → Moves classes (Other class) cell
  read-other class h l (fixed g) none m = absurd (none m.1)
  read-other class h l (variable y) none m = absurd m.0
  read-other class h l (restricted y k) none m =
      ⊎_elim
      (λ lt. let same : k ≡ class = literal-only class k h l (sym (as_symbols k h lt) ∙ m.1) in (y, ap (restricted y) same))
      (λ le. absurd (none (inr le, m.1)))
      (cases_lt k 4)

  -- a symbol that meets a cell is named by it
  symbol-named : (s : ℕ) (cell : PatternCell Head) → IsTested cell → Meets (in_class_of classes) cell (Symbol s) → Names classes cell (Symbol s)
  symbol-named s (fixed g) t m = m
  symbol-named s (variable y) t m = absurd t
  symbol-named s (restricted y k) t m = (
    ⊎_elim
        (λ lt. inl (truth k s (sym (as_symbols k (Symbol s) lt) ∙ m)))
        (λ le. inr le)
        (cases_lt k 4),
    m,
  )
    where
      left : (a b : Bool) → (a && b) ≡ true → a ≡ true
      left true b e = refl
      left false b e = e

      truth : (k s : ℕ) → in_symbol_class k (Symbol s) ≡ true → k ≡ 2
      truth k s e = eqb-true k 2 (left _ _ e)

-- ---- the root of a left side

nth_subtree-root : {X : Type 0} (t : Tree X) → nth_subtree t 0 ≡ t
nth_subtree-root (node x ts) = refl

module _ (rules : RuleList) (w : AreWellFormed rules) where
  pub root-symbol : (e : ℕ) (cell : PatternCell Head) → IsCell (left_sides_of rules) e 0 cell → (s : ℕ) × (cell ≡ fixed (Symbol s))
  root-symbol e cell i =
      let s = source rules e i.left i.listed in
      let x = contains_from_place rules.equations e s.equation s.listed in
      let f = w.each x.0 s.equation x.1 in
      let root = subst (λ d. (n : ℕ) × (head_of d.left ≡ fixed (Symbol n))) x.2 f.root in
      (root.0, sym i.stands ∙ ap head_of (nth_subtree-root i.left) ∙ ap head_of (sym s.is) ∙ root.1)

-- ---- steps that move the same cells

module _ (rules : RuleList) (items : ItemSet) (one other : Step) where
  -- the steps move the same items of the set on
  pub record MoveSame : Type 0 where
    pub to : (e c : ℕ) (cell : PatternCell Head) → (c ≡ 0) ⊎ Contains items (e, c) → IsCell (left_sides_of rules) e c cell → Moves rules.classes one cell → Moves rules.classes other cell
    pub from : (e c : ℕ) (cell : PatternCell Head) → (c ≡ 0) ⊎ Contains items (e, c) → IsCell (left_sides_of rules) e c cell → Moves rules.classes other cell → Moves rules.classes one cell

  module _ (m : MoveSame) where
    pub same-leads : (next : ItemSet) → LeadsTo rules items one next → LeadsTo rules items other next
    same-leads next l = record {
      ordered = l.ordered;
      exactly = λ e c. (
        λ x. let f = (l.exactly e c).0 x in record { before = f.before; further = f.further; this = record { held = f.this.held; cell = f.this.cell; is_cell = f.this.is_cell; moves = m.to e f.before f.this.cell f.this.held.1 f.this.is_cell f.this.moves }; there = f.there },
        λ f. (l.exactly e c).1 (record { before = f.before; further = f.further; this = record { held = f.this.held; cell = f.this.cell; is_cell = f.this.is_cell; moves = m.from e f.before f.this.cell f.this.held.1 f.this.is_cell f.this.moves }; there = f.there }),
      );
    }

    completed-to : (e c : ℕ) → IsCompletedBy rules items one e c → IsCompletedBy rules items other e c
    completed-to e c x = (x.0, record { cell = x.1.cell; is_cell = x.1.is_cell; tested = x.1.tested; moves = m.to e c x.1.cell x.0 x.1.is_cell x.1.moves; last = x.1.last })

    completed-from : (e c : ℕ) → IsCompletedBy rules items other e c → IsCompletedBy rules items one e c
    completed-from e c x = (x.0, record { cell = x.1.cell; is_cell = x.1.is_cell; tested = x.1.tested; moves = m.from e c x.1.cell x.0 x.1.is_cell x.1.moves; last = x.1.last })

    same-answered : (first : Option ℕ) → IsAnswered rules items one first → IsAnswered rules items other first
    same-answered None a = λ e c x. a e c (completed-from e c x)
    same-answered (Some f) a = ((a.0.0, completed-to f a.0.0 a.0.1), λ k c less x. a.1 k c less (completed-from k c x))

    pub same-right : (sets : List ItemSet) (to : Move) → IsRight rules sets items one to → IsRight rules sets items other to
    same-right sets to r = record { set = r.set; stands = r.stands; leads = same-leads r.set r.leads; completed = same-answered to.completed r.completed }

-- ---- heads that no item names

module _ (rules : RuleList) (w : AreWellFormed rules) (items : ItemSet) (heads : List Head) (named : HaveNamed rules items heads) where
  -- a literal that is not named is moved on as any other one of its class
  pub other-same : (class : ℕ) (h : Head) → IsLiteralOf class h → ¬ Contains heads h → MoveSame rules items (Other class) (Read h)
  other-same class h l none = record {
    to = λ e c cell held i m. other-read rules.classes class h l cell m;
    from = λ e c cell held i m. read-other rules.classes class h l cell (λ n. not-named e c cell held i n) m;
  }
    where
      at-root : (e : ℕ) (cell : PatternCell Head) → IsCell (left_sides_of rules) e 0 cell → Names rules.classes cell h → ⊥
      at-root e cell i n =
          let r = root-symbol rules w e cell i in
          let same : Symbol r.0 ≡ h = subst (λ d. Names rules.classes d h) r.1 n in
          subst (IsLiteralOf class) (sym same) l

      not-named : (e c : ℕ) (cell : PatternCell Head) → (c ≡ 0) ⊎ Contains items (e, c) → IsCell (left_sides_of rules) e c cell → Names rules.classes cell h → ⊥
      not-named e c cell held i n =
          ⊎_elim
          (λ z. at-root e cell (subst (λ k. IsCell (left_sides_of rules) e k cell) z i) n)
          (λ x. none (named e c x cell i h n))
          held

  -- no item below the roots is met by a symbol that is not named
  pub symbol-none : (s : ℕ) → ¬ Contains heads (Symbol s) → MeetsNone rules items (Symbol s)
  symbol-none s none e c more m =
      ⊎_elim
      (λ z. omega (arith, z, more))
      (λ x. none (named e c x m.cell m.is_cell (Symbol s) (symbol-named rules.classes s m.cell m.tested m.meets)))
      m.held.1

-- ---- the moves of a row

module _ (rules : RuleList) (sets : List ItemSet) (items : ItemSet) (row : State) (is : IsRow rules sets items row) (head : Head) (root : Move) where
  pub has-move : (place : ℕ) → slice_get row.heads.keys place ≡ Some head → place < length row.moves.items
  has-move place at = let lt = slice_get_within row.heads.keys place head at in omega (arith, lt, is.moves.as_many)

  pub by-place : (place : ℕ) (to : Move) → slice_get row.heads.keys place ≡ Some head → slice_get row.moves.items place ≡ Some to → IsOnHead rules sets items head root to
  by-place place to at move = λ _. is.moves.each place head to at move

  module _ (w : AreWellFormed rules) (none : ¬ Contains row.heads.keys head) where
    pub by-class : (class : ℕ) (to : Move) → IsLiteralOf class head → IsRight rules sets items (Other class) to → IsOnHead rules sets items head root to
    by-class class to l r = λ _. same-right rules items (Other class) (Read head) (other-same rules w items row.heads.keys is.named class head l none) sets to r

    pub by-symbol : (s : ℕ) → head ≡ Symbol s → IsOnHead rules sets items head root root
    by-symbol s e = λ f. f (subst (MeetsNone rules items) (sym e) (symbol-none rules w items row.heads.keys is.named s (subst (λ h. ¬ Contains row.heads.keys h) e none))) s e
