-- What a watch is seen as, and what an event makes of it.
use Rattle.std.specs.Prelude.{◌≡◌, ℕ, Bool, List, [], ◌∷◌, ◌++◌}
use Rattle.eq_watch.specs.declared.event.Event.{Event}

-- a watch: its numbers, and what is always the same of it
pub record WatchState : Type 0 where
  pub numbers : List ℕ
  -- the numbers after an event
  pub next : List ℕ → Event → List ℕ
  -- what is reported of the numbers
  pub text : List ℕ → List ℕ
  -- whether it answers yes to a name
  pub is_name : List ℕ → Bool

-- a watch that was told of an event
abbrev pub moved : WatchState → Event → WatchState
moved watch event = record watch { numbers = watch.next watch.numbers event }

-- a watch that was told of events, in order
abbrev pub moved_by : WatchState → List Event → WatchState
moved_by watch [] = watch
moved_by watch (event ∷ events) = moved_by (moved watch event) events

-- a watch that has forgotten what it was told
abbrev pub cleared : WatchState → WatchState
cleared watch = record watch { numbers = [] }

-- what a watch reports
abbrev pub reported : WatchState → List ℕ
reported watch = watch.text watch.numbers

-- the bytes that were there, and perhaps more behind them
abbrev pub Grew : List ℕ → List ℕ → Type 0
Grew old new = (more : List ℕ) × (new ≡ old ++ more)
