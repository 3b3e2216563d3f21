-- The last tested cell of a left side, as it is looked for.
use Rattle.std.proofs.Common.{◌≡◌, ℕ, ◌+◌, ◌<◌, ◌≤◌, sym, subst, arith, ⊎_elim}
use Rattle.std.proofs.lemmas.Bool.{cases_lt}
use Rattle.eq_base.specs.Tree.{Tree, node, size, nth_subtree}
use Rattle.eq_base.specs.Pattern.{PatternCell, IsTested}
use Rattle.eq_base.specs.Cells.{root_cell}
use Rattle.eq_base.specs.Meeting.{CellIsTested}
use Rattle.eq_base.specs.declared.head.Head.{Head}
use Rattle.eq_base.specs.declared.head.Cell.{Cell}
use Rattle.regularity.specs.WellFormed.{HasSymbolRoot}
use Rattle.match_tables.specs.Ending.{IsTestedAt, IsLast}
use Rattle.match_tables.proofs.Moved.{kind_of-root_cell}

-- the root is tested
root-tested : (left : Tree (PatternCell Head)) → HasSymbolRoot left → IsTestedAt left 0
root-tested (node a args) root = subst IsTested (sym root.1) tt

some-cell : (left : Tree (PatternCell Head)) → 0 < size left
some-cell (node a args) = omega arith

module _ (left : Tree (PatternCell Head)) where
  -- between the cell of the code and that of the definitions
  pub tested-cell : (at : ℕ) (cell : Cell) → cell ≡ root_cell (nth_subtree left at) → CellIsTested cell → IsTestedAt left at
  tested-cell at cell is t = subst IsTested (kind_of-root_cell (nth_subtree left at)) (subst CellIsTested is t)

  pub cell-tested : (at : ℕ) (cell : Cell) → cell ≡ root_cell (nth_subtree left at) → IsTestedAt left at → CellIsTested cell
  cell-tested at cell is t = subst CellIsTested (sym is) (subst IsTested (sym (kind_of-root_cell (nth_subtree left at))) t)

  -- the last of the tested cells before cell `at`
  pub record IsLastBefore (at last : ℕ) : Type 0 where
    pub there : last < size left
    pub tested : IsTestedAt left last
    pub after : (k : ℕ) → last < k → k < at → IsTestedAt left k → ⊥

  pub last-root : HasSymbolRoot left → IsLastBefore 1 0
  last-root root = record {
    there = some-cell left;
    tested = root-tested left root;
    after = λ k more less t. omega (arith, more, less);
  }

  pub last-here : (at : ℕ) → at < size left → IsTestedAt left at → IsLastBefore (at + 1) at
  last-here at inside t = record {
    there = inside;
    tested = t;
    after = λ k more less u. omega (arith, more, less);
  }

  pub last-before : (at last : ℕ) → (IsTestedAt left at → ⊥) → IsLastBefore at last → IsLastBefore (at + 1) last
  last-before at last none is = record {
    there = is.there;
    tested = is.tested;
    after = λ k more less t.
        ⊎_elim
        (λ before. is.after k more before t)
        (λ past. let same : k ≡ at = omega (arith, less, past) in none (subst (IsTestedAt left) same t))
        (cases_lt k at);
  }

  pub last-all : (at last : ℕ) → size left ≤ at → IsLastBefore at last → IsLast left last
  last-all at last past is = record {
    there = is.there;
    tested = is.tested;
    after = λ k more less t. is.after k more (omega (arith, less, past)) t;
  }
