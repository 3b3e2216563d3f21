-- What the code knows of the alternatives by their places.
use Rattle.std.specs.Prelude.{◌≡◌, ◌↔◌, ℕ, ◌+◌, ◌<◌, List, [], length, drop, nat_eq, Option, Some, None, Contains, slice_get, slice_index, slice_index_or}
use Rattle.indexmap.specs.IndexMap.{IndexMap, get}
use Rattle.eq_base.specs.Tree.{Tree, node, empty}
use Rattle.eq_base.specs.Pattern.{PatternCell, fixed, variable, restricted}
use Rattle.eq_base.specs.declared.head.Head.{Head}
use Rattle.def_file.specs.declared.definitions.Qualifier.{Qualifier}
use Rattle.qualifiers.specs.Replacing.{Choice, chosen}
use Rattle.qualifiers.specs.Choices.{choices_of}
use Rattle.qualifiers.specs.Choosing.{chosen_in}
use Rattle.qualifiers.specs.Held.{qualifiers_held}
use Rattle.qualifiers.specs.Leading.{IsPlaceOf}
use Rattle.qualifiers.specs.declared.choices.ChoiceTable.{ChoiceTable}

-- the choice with the number
abbrev pub choice_with : List Qualifier → ℕ → Choice Head
choice_with qs number = slice_index_or (choices_of (qualifiers_held qs)) number []

-- the first variable stands for the second: it is that one, or a variable alone is chosen for it that stands for that one
pub data Stands {H : Type 0} (choice : Choice H) : ℕ → ℕ → Type 0 where
  itself : {x : ℕ} → Stands choice x x
  on : {x y z : ℕ} → chosen choice x ≡ Some (node (variable y) empty) → Stands choice y z → Stands choice x z

-- the pattern is chosen for the variable of the cell, or for one that it stands for
abbrev pub IsChosenFor : {H : Type 0} → Choice H → Tree (PatternCell H) → PatternCell H → Type 0
IsChosenFor choice a (fixed h) = ⊥
IsChosenFor choice a (variable x) = (z : ℕ) × Stands choice x z × (chosen choice z ≡ Some a)
IsChosenFor choice a (restricted x class) = ⊥

-- the answer for a cell is such a pattern, or none where nothing is chosen for it
abbrev pub AnswersCell : Choice Head → Option (Tree (PatternCell Head)) → PatternCell Head → Type 0
AnswersCell choice (Some a) c = IsChosenFor choice a c
AnswersCell choice None c = chosen_in choice c ≡ None

-- in each choice the variable at the first place stands for the one at the second, which has alternatives if the first has
pub record StandsFor (qs : List Qualifier) (place other : ℕ) : Type 0 where
  pub first : Qualifier
  pub second : Qualifier
  pub at_place : slice_get qs place ≡ Some first
  pub at_other : slice_get qs other ≡ Some second
  pub offers : 0 < length first.choices → 0 < length second.choices
  pub always : (choice : Choice Head) → Contains (choices_of (qualifiers_held qs)) choice
      → Stands choice first.variable second.variable

-- for each place one that its variable stands for
pub record AreTargets (qs : List Qualifier) (targets : List ℕ) : Type 0 where
  pub len : length targets ≡ length qs
  pub each : (i : ℕ) → i < length qs → StandsFor qs i (slice_index targets i)

-- for each place how many choices there are of the qualifiers behind it
pub record AreBlocks (qs : List Qualifier) (blocks : List ℕ) : Type 0 where
  pub len : length blocks ≡ length qs
  pub each : (i : ℕ) → i < length qs
      → slice_index blocks i ≡ length (choices_of (drop (i + 1) (qualifiers_held qs)))

-- the places of the qualifiers by their variables
abbrev pub ArePlaces : {S : Type 0} → List Qualifier → IndexMap ℕ ℕ S → Type 0
ArePlaces qs places = (x place : ℕ) → (get nat_eq places x ≡ Some place) ↔ IsPlaceOf qs x place

-- the table of the qualifiers
pub record IsTableOf (qs : List Qualifier) (table : ChoiceTable) : Type 0 where
  pub places : ArePlaces qs table.places
  pub blocks : AreBlocks qs table.blocks.items
  pub targets : AreTargets qs table.targets.items
