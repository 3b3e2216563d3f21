-- What moves the items of a set on: a read of a head, a read of any other head of a class, or a skip.
use Rattle.std.specs.Prelude.{◌≡◌, ℕ, List}
use Rattle.eq_base.specs.Pattern.{PatternCell, variable, restricted, IsTested, Meets}
use Rattle.eq_base.specs.Meeting.{in_class_of}
use Rattle.eq_base.specs.RuleList.{RuleList}
use Rattle.eq_base.specs.declared.head.Head.{Head}
use Rattle.match_laws.specs.Items.{ItemSet, IsCell, Holds, AreFurther}
use Rattle.match_laws.specs.Demand.{left_sides_of}
use Rattle.match_tables.specs.declared.step.Step.{Step}
use Rattle.match_tables.specs.declared.step.Step.TheVariants.{Read, Other, Skip}

-- the step moves an item at this cell on; a head of a symbol class that is named nowhere meets the cells of
-- its class alone
abbrev pub Moves : List (List Head) → Step → PatternCell Head → Type 0
Moves classes (Read h) c = IsTested c × Meets (in_class_of classes) c h
Moves classes (Other class) c = (x : ℕ) × (c ≡ restricted x class)
Moves classes Skip c = (x : ℕ) × (c ≡ variable x)

module _ (rules : RuleList) where
  -- the item is held, and the step moves it on
  pub record IsMoved (items : ItemSet) (step : Step) (e c : ℕ) : Type 0 where
    pub held : Holds (left_sides_of rules) items e c
    pub cell : PatternCell Head
    pub is_cell : IsCell (left_sides_of rules) e c cell
    pub moves : Moves rules.classes step cell

  -- the step leads from one item set to the next
  abbrev pub LeadsTo : ItemSet → Step → ItemSet → Type 0
  LeadsTo items step next = AreFurther (left_sides_of rules) (IsMoved items step) next
