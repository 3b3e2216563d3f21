-- Graphs of places: the edges that lead from each one, what a search has seen, and levels.
use Rattle.std.specs.Prelude.{◌≡◌, ◌≤◌, ◌<◌, ◌+◌, ℕ, suc, ◌⊎◌, Bool, true, false, List, [], ◌∷◌, length, slice_get, slice_index_or, Some, Contains}
use Rattle.std.specs.Global.{Vec}
use Rattle.qualifiers.specs.Replacing.{Chain}

-- the one place follows the other: an edge leads from it
pub record Follows (graph : List (Vec ℕ)) (i j : ℕ) : Type 0 where
  pub followers : Vec ℕ
  pub listed : slice_get graph i ≡ Some followers
  pub among : Contains followers.items j

-- edges lead from one place to the other
abbrev pub LeadsOn : List (Vec ℕ) → ℕ → ℕ → Type 0
LeadsOn graph i j = Chain (Follows graph) i j

-- what follows a place is a place
abbrev pub IsWithin : List (Vec ℕ) → Type 0
IsWithin graph = (i j : ℕ) → Follows graph i j → j < length graph

-- ---- searches

-- the place was seen
abbrev pub IsSeen : List Bool → ℕ → Type 0
IsSeen seen j = slice_index_or seen j false ≡ true

-- how many were not
abbrev pub unseen : List Bool → ℕ
unseen [] = 0
unseen (true ∷ seen) = unseen seen
unseen (false ∷ seen) = suc (unseen seen)

-- these places were seen beside the earlier ones, and the new ones among them are to be looked at
pub record Sees (places : List ℕ) (seen new : List Bool) (pending later : List ℕ) : Type 0 where
  pub long : length new ≡ length seen
  pub kept : (j : ℕ) → IsSeen seen j → IsSeen new j
  pub all : (j : ℕ) → Contains places j → IsSeen new j
  pub only : (j : ℕ) → IsSeen new j → IsSeen seen j ⊎ Contains places j
  pub stays : (j : ℕ) → Contains pending j → Contains later j
  pub laid : (j : ℕ) → IsSeen new j → IsSeen seen j ⊎ Contains later j
  pub few : (j : ℕ) → Contains later j → Contains pending j ⊎ Contains places j
  pub even : unseen new + length later ≡ unseen seen + length pending

-- ---- levels

-- the level of a place
abbrev pub level_at : List ℕ → ℕ → ℕ
level_at levels j = slice_index_or levels j 0

-- levels do not grow along edges
abbrev pub AreFalling : List (Vec ℕ) → List ℕ → Type 0
AreFalling graph levels = (i j : ℕ) → Follows graph i j → level_at levels j ≤ level_at levels i
