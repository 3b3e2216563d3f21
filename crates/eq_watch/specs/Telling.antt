-- Some watches, of which some are turned on.
use Rattle.std.specs.Prelude.{◌≡◌, ℕ, Bool, true, false, List, [], ◌∷◌, ◌++◌, ◌||◌, take, codes, bytes_eq}
use Rattle.std.specs.List.{list_any}
use Rattle.eq_watch.specs.declared.event.Event.{Event}
use Rattle.eq_watch.specs.Watching.{WatchState, moved_by, cleared, reported}

-- each watch that is turned on was changed so
abbrev pub changed_where : (WatchState → WatchState) → List Bool → List WatchState → List WatchState
changed_where change (true ∷ on) (watch ∷ watches) = change watch ∷ changed_where change on watches
changed_where change (false ∷ on) (watch ∷ watches) = watch ∷ changed_where change on watches
changed_where change _ watches = watches

-- each watch that is turned on was told of these events, in order
abbrev pub told : List Bool → List Event → List WatchState → List WatchState
told on events watches = changed_where (λ watch. moved_by watch events) on watches

-- each watch that is turned on has forgotten what it was told
abbrev pub cleared_each : List Bool → List WatchState → List WatchState
cleared_each on watches = changed_where cleared on watches

-- what the watches that are turned on report, one after the other
abbrev pub reports : List Bool → List WatchState → List ℕ
reports (true ∷ on) (watch ∷ watches) = reported watch ++ reports on watches
reports (false ∷ on) (watch ∷ watches) = reports on watches
reports _ _ = []

-- a watch that is turned on was told of the first of these events, and another one of none
abbrev pub IsToldFront : Bool → List Event → WatchState → WatchState → Type 0
IsToldFront true events old new = (count : ℕ) × (new ≡ moved_by old (take count events))
IsToldFront false events old new = new ≡ old

-- each watch that is turned on was told of the first of these events, perhaps not as many as another
abbrev pub ToldFronts : List Bool → List Event → List WatchState → List WatchState → Type 0
ToldFronts on events [] new = new ≡ []
ToldFronts [] events old new = new ≡ old
ToldFronts (on ∷ rest) events (watch ∷ old) [] = ⊥
ToldFronts (on ∷ rest) events (watch ∷ old) (told ∷ new) =
    IsToldFront on events watch told × ToldFronts rest events old new

-- a name turns a watch on: `all`, or one to which the watch answers yes
abbrev pub is_turned_on : List ℕ → WatchState → Bool
is_turned_on name watch = bytes_eq name (codes "all") || watch.is_name name

-- a name is `all`, or some watch answers yes to it
abbrev pub is_watch_name : List ℕ → List WatchState → Bool
is_watch_name name watches = bytes_eq name (codes "all") || list_any (λ watch. watch.is_name name) watches
