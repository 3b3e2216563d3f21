-- What the row of a state holds.
use Rattle.std.specs.Prelude.{◌≡◌, ◌⊎◌, ℕ, ◌<◌, ◌≤◌, List, length, Option, Some, None, slice_get, Contains, IsTrue}
use Rattle.eq_base.specs.Pattern.{PatternCell, fixed, variable, restricted}
use Rattle.eq_base.specs.Meeting.{in_class_of, class_number}
use Rattle.eq_base.specs.RuleList.{RuleList}
use Rattle.eq_base.specs.declared.head.Head.{Head}
use Rattle.eq_base.specs.declared.meeting.SymbolClass.TheVariants.{Numerals, Atoms, TruthValues, Strings}
use Rattle.match_laws.specs.Items.{ItemSet, IsCell, IsMet}
use Rattle.match_laws.specs.Demand.{left_sides_of}
use Rattle.match_tables.specs.Completing.{IsAnswered}
use Rattle.match_tables.specs.Steps.{LeadsTo}
use Rattle.match_tables.specs.Answering.{StandsFor, IsWanted, SkipLeads}
use Rattle.match_tables.specs.declared.step.Step.{Step}
use Rattle.match_tables.specs.declared.step.Step.TheVariants.{Read, Other}
use Rattle.match_tables.specs.declared.search.Move.{Move}
use Rattle.match_tables.specs.declared.row.State.{State}

-- the cell names the head, or its class is finite and has it
abbrev pub Names : List (List Head) → PatternCell Head → Head → Type 0
Names classes (fixed g) h = g ≡ h
Names classes (variable x) h = ⊥
Names classes (restricted x class) h = ((class ≡ class_number TruthValues) ⊎ (4 ≤ class))
    × IsTrue (in_class_of classes class h)

-- each head that the cell names stands in the list
abbrev pub HasNamed : List (List Head) → PatternCell Head → List Head → Type 0
HasNamed classes cell heads = (h : Head) → Names classes cell h → Contains heads h

-- all of these stand in the list
abbrev pub HasAll : List Head → List Head → Type 0
HasAll these heads = (h : Head) → Contains these h → Contains heads h

-- what stands in the old list stands in the new one
abbrev pub Keeps : List Head → List Head → Type 0
Keeps old new = HasAll old new

-- where the head stands in the list, if it does
abbrev pub IsPlaceIn : List Head → Head → Option ℕ → Type 0
IsPlaceIn heads head None = ¬ Contains heads head
IsPlaceIn heads head (Some place) = slice_get heads place ≡ Some head

module _ (rules : RuleList) where
  -- each head that the cell of an item names stands in the list
  abbrev pub HaveNamed : ItemSet → List Head → Type 0
  HaveNamed items heads = (e c : ℕ) → Contains items (e, c) → (cell : PatternCell Head)
      → IsCell (left_sides_of rules) e c cell → HasNamed rules.classes cell heads

  -- no item below the roots is met by the head
  abbrev pub MeetsNone : ItemSet → Head → Type 0
  MeetsNone items head = (e c : ℕ) → 0 < c
      → IsMet (in_class_of rules.classes) (left_sides_of rules) items head e c → ⊥

  module _ (sets : List ItemSet) where
    -- the step leads from the item set to the move's, and completes the equation that it names
    pub record IsRight (items : ItemSet) (step : Step) (to : Move) : Type 0 where
      pub set : ItemSet
      pub stands : StandsFor sets to.next set
      pub leads : LeadsTo rules items step set
      pub completed : IsAnswered rules items step to.completed

    -- each head has its move
    pub record AreRight (items : ItemSet) (heads : List Head) (moves : List Move) : Type 0 where
      pub as_many : length moves ≡ length heads
      pub each : (i : ℕ) (head : Head) (to : Move) → slice_get heads i ≡ Some head
          → slice_get moves i ≡ Some to → IsRight items (Read head) to

    -- the row has a move for each head that the cell of an item names, and one for the other heads of each
    -- class
    pub record IsRow (items : ItemSet) (row : State) : Type 0 where
      pub want : IsWanted rules items row.want
      pub skip : SkipLeads rules sets items row.skip
      pub named : HaveNamed items row.heads.keys
      pub moves : AreRight items row.heads.keys row.moves.items
      pub numerals : IsRight items (Other (class_number Numerals)) row.numerals
      pub atoms : IsRight items (Other (class_number Atoms)) row.atoms
      pub strings : IsRight items (Other (class_number Strings)) row.strings
