-- The last tested cell of one left side.
use Rattle.std.specs.Prelude.{◌≡◌, ℕ, ◌<◌, length}
use Rattle.eq_base.specs.Tree.{Tree, head_of, size, nth_subtree, nth_position}
use Rattle.eq_base.specs.Pattern.{PatternCell, IsTested}
use Rattle.eq_base.specs.declared.head.Head.{Head}
use Rattle.match_tables.specs.declared.completed.End.{End}

module _ (left : Tree (PatternCell Head)) where
  -- the cell is tested
  abbrev pub IsTestedAt : ℕ → Type 0
  IsTestedAt c = IsTested (head_of (nth_subtree left c))

  -- the cell is tested, and no later one is
  pub record IsLast (last : ℕ) : Type 0 where
    pub there : last < size left
    pub tested : IsTestedAt last
    pub after : (k : ℕ) → last < k → k < size left → IsTestedAt k → ⊥

  -- the last tested cell, and its depth
  pub record IsEndOf (end : End) : Type 0 where
    pub last : IsLast end.cell
    pub depth : length (nth_position left end.cell) ≡ end.height
