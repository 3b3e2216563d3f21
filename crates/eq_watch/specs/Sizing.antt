-- The watch that sums up what the replacements made.
use Rattle.std.specs.Prelude.{ℕ, List, [], ◌∷◌, ◌++◌, codes, decimal, bytes_eq}
use Rattle.eq_watch.specs.declared.event.Event.{Event}
use Rattle.eq_watch.specs.Watching.{WatchState}
use Rattle.eq_watch.specs.Counting.{sum_up_to_last}

-- how many replacements there were, how many nodes they made, and the number of nodes after the last
abbrev pub sized : List ℕ → Event → List ℕ
sized (replaced ∷ made ∷ last ∷ []) event =
    sum_up_to_last replaced 1 ∷ sum_up_to_last made event.made
    ∷ sum_up_to_last event.first_made event.made ∷ []
sized _ event =
    sum_up_to_last 0 1 ∷ sum_up_to_last 0 event.made ∷ sum_up_to_last event.first_made event.made ∷ []

-- the line of the sums
abbrev pub sizes_line : (replaced made last : ℕ) → List ℕ
sizes_line replaced made last =
    codes "replaced " ++ decimal replaced ++ codes " made " ++ decimal made ++ codes " last " ++ decimal last
    ++ codes "\n"

-- the line of the sums, which are 0 where there was no replacement
abbrev pub sizes_text : List ℕ → List ℕ
sizes_text (replaced ∷ made ∷ last ∷ []) = sizes_line replaced made last
sizes_text _ = sizes_line 0 0 0

-- the watch `sizes` with these numbers
abbrev pub sizes_with : List ℕ → WatchState
sizes_with numbers =
    record { numbers = numbers; next = sized; text = sizes_text; is_name = bytes_eq (codes "sizes") }
