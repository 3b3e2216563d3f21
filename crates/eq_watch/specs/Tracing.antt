-- The watch that notes each replacement.
use Rattle.std.specs.Prelude.{ℕ, List, [], ◌∷◌, ◌++◌, codes, decimal, bytes_eq}
use Rattle.eq_watch.specs.declared.event.Event.{Event}
use Rattle.eq_watch.specs.Watching.{WatchState}

-- what is noted of an event
abbrev pub noted : Event → List ℕ
noted event = event.number ∷ event.equation ∷ event.node ∷ event.made ∷ []

-- the notes after an event
abbrev pub traced : List ℕ → Event → List ℕ
traced numbers event = numbers ++ noted event

-- the line of a replacement
abbrev pub trace_line : (number equation node made : ℕ) → List ℕ
trace_line number equation node made =
    decimal number ++ codes " equation " ++ decimal equation ++ codes " node " ++ decimal node
    ++ codes " made " ++ decimal made ++ codes "\n"

-- a line for each replacement
abbrev pub trace_text : List ℕ → List ℕ
trace_text (number ∷ equation ∷ node ∷ made ∷ rest) = trace_line number equation node made ++ trace_text rest
trace_text _ = []

-- the watch `trace` with these numbers
abbrev pub trace_with : List ℕ → WatchState
trace_with numbers =
    record { numbers = numbers; next = traced; text = trace_text; is_name = bytes_eq (codes "trace") }
