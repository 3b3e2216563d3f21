-- What the calls of tables answer.
use Rattle.std.specs.Prelude.{◌≡◌, ℕ, List, Some, slice_get}
use Rattle.eq_base.specs.Meeting.{in_class_of}
use Rattle.eq_base.specs.RuleList.{RuleList}
use Rattle.eq_base.specs.declared.head.Head.{Head}
use Rattle.match_laws.specs.Items.{ItemSet, IsRead, IsSkip, IsCompleted, IsFirstCompleted, WantsRead, WantsSkip, WantsNothing}
use Rattle.match_laws.specs.Demand.{left_sides_of}
use Rattle.match_tables.specs.declared.advance.Advance.{Advance}
use Rattle.match_tables.specs.declared.advance.Advance.TheVariants.{Go, Redex}
use Rattle.match_tables.specs.declared.advance.Want.{Want}
use Rattle.match_tables.specs.declared.advance.Want.TheVariants.{Read, Skip, Nothing}

-- the number stands for the item set, in a list of them
abbrev pub StandsFor : List ItemSet → ℕ → ItemSet → Type 0
StandsFor sets state items = slice_get sets state ≡ Some items

module _ (rules : RuleList) where
  -- what the item set wants
  abbrev pub IsWanted : ItemSet → Want → Type 0
  IsWanted items Read = WantsRead (left_sides_of rules) items
  IsWanted items Skip = WantsSkip (left_sides_of rules) items
  IsWanted items Nothing = WantsNothing (left_sides_of rules) items

  module _ (sets : List ItemSet) where
    -- a read of the head leads from the item set to the state
    pub record ReadLeads (items : ItemSet) (head : Head) (next : ℕ) : Type 0 where
      pub set : ItemSet
      pub stands : StandsFor sets next set
      pub read : IsRead (in_class_of rules.classes) (left_sides_of rules) items head set

    -- no left side is completed by a read of the head
    abbrev pub CompletesNone : ItemSet → Head → Type 0
    CompletesNone items head = (e c : ℕ)
        → IsCompleted (in_class_of rules.classes) (left_sides_of rules) items head e c → ⊥

    -- what a read of the head answers: the next state, and the first equation whose left side is completed,
    -- if there is one
    abbrev pub IsAdvance : ItemSet → Head → Advance → Type 0
    IsAdvance items head (Go next) = ReadLeads items head next × CompletesNone items head
    IsAdvance items head (Redex equation height next) = ReadLeads items head next
        × IsFirstCompleted (in_class_of rules.classes) (left_sides_of rules) items head equation height

    -- a skip leads from the item set to the state
    pub record SkipLeads (items : ItemSet) (next : ℕ) : Type 0 where
      pub set : ItemSet
      pub stands : StandsFor sets next set
      pub skip : IsSkip (left_sides_of rules) items set
