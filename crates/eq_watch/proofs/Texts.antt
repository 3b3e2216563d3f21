-- The texts of stored notes and counts, line by line.
use Rattle.std.proofs.Common.{◌≡◌, ℕ, List, [], ◌∷◌, ◌++◌, ◌≤◌, flat_map, length, take, refl, sym, ap, ◌∙◌}
use Rattle.std.proofs.lemmas.List.{take_all}
use Rattle.eq_watch.specs.declared.event.Event.{Event}
use Rattle.eq_watch.specs.declared.profile.Used.{Used}
use Rattle.eq_watch.specs.Tracing.{noted, trace_text}
use Rattle.eq_watch.specs.Noting.{event_line}
use Rattle.eq_watch.specs.Profiling.{profile_text}
use Rattle.eq_watch.specs.Using.{counts_of, used_line}

-- the text of noted events is their lines
pub trace_text-noted : (events : List Event) → trace_text (flat_map noted events) ≡ flat_map event_line events
trace_text-noted [] = refl
trace_text-noted (event ∷ events) = ap (λ text. event_line event ++ text) (trace_text-noted events)

-- the text of counts is their lines
pub profile_text-counts : (all : List Used) → profile_text (counts_of all) ≡ flat_map used_line all
profile_text-counts [] = refl
profile_text-counts (used ∷ all) = ap (λ text. used_line used ++ text) (profile_text-counts all)

-- the lines of all that is stored are the report
pub trace_report : (old new : List ℕ) (items stored : List Event) (i : ℕ) (numbers : List ℕ)
    → new ≡ old ++ flat_map event_line (take i items) → length items ≤ i → items ≡ stored
    → flat_map noted stored ≡ numbers → new ≡ old ++ trace_text numbers
trace_report old new items stored i numbers lines all same view =
    lines ∙ ap (λ text. old ++ text) (ap (λ all. flat_map event_line all) (take_all i items all ∙ same)
    ∙ (sym (trace_text-noted stored) ∙ ap trace_text view))

-- the lines of all that is stored are the report
pub profile_report : (old new : List ℕ) (items stored : List Used) (i : ℕ) (numbers : List ℕ)
    → new ≡ old ++ flat_map used_line (take i items) → length items ≤ i → items ≡ stored
    → counts_of stored ≡ numbers → new ≡ old ++ profile_text numbers
profile_report old new items stored i numbers lines all same view =
    lines ∙ ap (λ text. old ++ text) (ap (λ all. flat_map used_line all) (take_all i items all ∙ same)
    ∙ (sym (profile_text-counts stored) ∙ ap profile_text view))
