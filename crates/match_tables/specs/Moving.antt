-- Item sets on the way from one to the next.
use Rattle.std.specs.Prelude.{◌≡◌, ◌↔◌, ℕ, suc, ◌<◌, Contains}
use Rattle.eq_base.specs.RuleList.{RuleList}
use Rattle.eq_base.specs.Pattern.{PatternCell}
use Rattle.eq_base.specs.declared.head.Head.{Head}
use Rattle.match_laws.specs.Items.{ItemSet, HasCell, IsCell, IsOrdered}
use Rattle.match_laws.specs.Demand.{left_sides_of}
use Rattle.match_tables.specs.Steps.{Moves}
use Rattle.match_tables.specs.declared.step.Step.{Step}

module _ (rules : RuleList) where
  -- the items are in order, each below the root of its left side
  pub record AreItemsOf (items : ItemSet) : Type 0 where
    pub ordered : IsOrdered items
    pub below : (e c : ℕ) → Contains items (e, c) → 0 < c
    pub there : (e c : ℕ) → Contains items (e, c) → HasCell (left_sides_of rules) e c

  -- the step moves an item at this cell on to the next cell
  pub record MovesOn (step : Step) (e c : ℕ) : Type 0 where
    pub cell : PatternCell Head
    pub is_cell : IsCell (left_sides_of rules) e c cell
    pub moves : Moves rules.classes step cell
    pub there : HasCell (left_sides_of rules) e (suc c)

  -- the items are exactly those behind the roots that the step moves on
  pub record AreMovedRoots (step : Step) (items : ItemSet) : Type 0 where
    pub ordered : IsOrdered items
    pub exactly : (e c : ℕ) → Contains items (e, c) ↔ (c ≡ 1) × MovesOn step e 0
