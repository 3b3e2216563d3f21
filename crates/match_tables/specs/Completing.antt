-- Which left sides a step completes.
use Rattle.std.specs.Prelude.{◌≡◌, ◌⊎◌, ℕ, ◌<◌, List, length, Option, Some, None, slice_get, Contains}
use Rattle.eq_base.specs.RuleList.{RuleList}
use Rattle.eq_base.specs.Pattern.{PatternCell, IsTested}
use Rattle.eq_base.specs.declared.head.Head.{Head}
use Rattle.match_laws.specs.Items.{ItemSet, IsCell, IsLastTested, IsDepth}
use Rattle.match_laws.specs.Demand.{left_sides_of}
use Rattle.match_tables.specs.Steps.{Moves}
use Rattle.match_tables.specs.declared.step.Step.{Step}
use Rattle.match_tables.specs.declared.completed.End.{End}

module _ (rules : RuleList) where
  -- the last tested cell of the left side of equation e, and its depth
  pub record IsEnd (e : ℕ) (end : End) : Type 0 where
    pub cell : PatternCell Head
    pub is_cell : IsCell (left_sides_of rules) e end.cell cell
    pub tested : IsTested cell
    pub last : IsLastTested (left_sides_of rules) e end.cell
    pub depth : IsDepth (left_sides_of rules) e end.cell end.height

  -- the last tested cell of each left side
  pub record AreEnds (ends : List End) : Type 0 where
    pub lengths : length ends ≡ length (left_sides_of rules)
    pub each : (e : ℕ) (end : End) → slice_get ends e ≡ Some end → IsEnd e end

  -- the step moves an item at this tested cell on, and no later cell is tested
  pub record CompletesAt (step : Step) (e c : ℕ) : Type 0 where
    pub cell : PatternCell Head
    pub is_cell : IsCell (left_sides_of rules) e c cell
    pub tested : IsTested cell
    pub moves : Moves rules.classes step cell
    pub last : IsLastTested (left_sides_of rules) e c

  -- the step completes the left side of equation e by an item of the list, or at its root
  abbrev pub IsCompletedBy : ItemSet → Step → ℕ → ℕ → Type 0
  IsCompletedBy items step e c = ((c ≡ 0) ⊎ Contains items (e, c)) × CompletesAt step e c

  -- the first equation whose left side the step completes, if there is one
  abbrev pub IsAnswered : ItemSet → Step → Option ℕ → Type 0
  IsAnswered items step None = (e c : ℕ) → IsCompletedBy items step e c → ⊥
  IsAnswered items step (Some e) = ((c : ℕ) × IsCompletedBy items step e c)
      × ((k c : ℕ) → k < e → IsCompletedBy items step k c → ⊥)

-- the equation comes before the one that is found, if there is one
abbrev pub IsLess : ℕ → Option ℕ → Type 0
IsLess e None = Unit {0}
IsLess e (Some first) = e < first
