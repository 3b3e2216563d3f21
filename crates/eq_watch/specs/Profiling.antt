-- The watch that counts how often each equation is used.
use Rattle.std.specs.Prelude.{ℕ, List, [], ◌∷◌, ◌++◌, codes, decimal, bytes_eq, nat_lt, ◌==◌, if◌then◌else◌}
use Rattle.eq_watch.specs.declared.event.Event.{Event}
use Rattle.eq_watch.specs.Watching.{WatchState}
use Rattle.eq_watch.specs.Counting.{sum_up_to_last}

-- equations, in increasing number, each with how often it was used, after one more use of this one
abbrev pub used_again : List ℕ → ℕ → List ℕ
used_again (first ∷ times ∷ rest) equation =
    if nat_lt first equation then first ∷ times ∷ used_again rest equation
    else if first == equation then first ∷ sum_up_to_last times 1 ∷ rest
    else equation ∷ 1 ∷ first ∷ times ∷ rest
used_again _ equation = equation ∷ 1 ∷ []

-- the counts after an event
abbrev pub profiled : List ℕ → Event → List ℕ
profiled numbers event = used_again numbers event.equation

-- the line of an equation
abbrev pub profile_line : (equation times : ℕ) → List ℕ
profile_line equation times =
    codes "equation " ++ decimal equation ++ codes " used " ++ decimal times ++ codes "\n"

-- a line for each equation that was used
abbrev pub profile_text : List ℕ → List ℕ
profile_text (equation ∷ times ∷ rest) = profile_line equation times ++ profile_text rest
profile_text _ = []

-- the watch `profile` with these numbers
abbrev pub profile_with : List ℕ → WatchState
profile_with numbers =
    record { numbers = numbers; next = profiled; text = profile_text; is_name = bytes_eq (codes "profile") }
