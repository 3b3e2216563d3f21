-- Watches that are changed one after the other.
use Rattle.std.proofs.Common.{◌≡◌, ℕ, zero, suc, ◌+◌, ◌<◌, Bool, true, false, List, [], ◌∷◌, ◌++◌, length, get_or, set, take, refl, sym, ap, ◌∙◌, arith, add-one, append_assoc, append-nil, map}
use Rattle.std.proofs.lemmas.List.{length-map, map-set, get_or-map, set-get_or}
use Rattle.eq_watch.specs.Watching.{WatchState, reported, Grew}
use Rattle.eq_watch.specs.Telling.{changed_where, reports}

pub length-changed_where : (change : WatchState → WatchState) (on : List Bool) (all : List WatchState)
    → length (changed_where change on all) ≡ length all
length-changed_where change [] all = refl
length-changed_where change (true ∷ on) [] = refl
length-changed_where change (false ∷ on) [] = refl
length-changed_where change (true ∷ on) (watch ∷ all) = ap suc (length-changed_where change on all)
length-changed_where change (false ∷ on) (watch ∷ all) = ap suc (length-changed_where change on all)

-- a watch that is turned on is changed next
changed_where-more : (change : WatchState → WatchState) (on : List Bool) (all : List WatchState) (i : ℕ)
    (b : Bool) (d now : WatchState) → length on ≡ length all → i < length on → get_or on i b ≡ true
    → now ≡ change (get_or (changed_where change (take i on) all) i d)
    → set (changed_where change (take i on) all) i now ≡ changed_where change (take (suc i) on) all
changed_where-more change [] all i b d now same within is_on is = absurd (omega arith)
changed_where-more change (first ∷ on) [] i b d now same within is_on is = absurd (omega arith)
changed_where-more change (true ∷ on) (watch ∷ all) zero b d now same within is_on is = ap (λ w. w ∷ all) is
changed_where-more change (false ∷ on) (watch ∷ all) zero b d now same within is_on is = cc
changed_where-more change (true ∷ on) (watch ∷ all) (suc i) b d now same within is_on is =
    ap (λ rest. change watch ∷ rest) (changed_where-more change on all i b d now (omega arith) (omega arith) is_on is)
changed_where-more change (false ∷ on) (watch ∷ all) (suc i) b d now same within is_on is =
    ap (λ rest. watch ∷ rest) (changed_where-more change on all i b d now (omega arith) (omega arith) is_on is)

-- a watch that is off stays
changed_where-same : (change : WatchState → WatchState) (on : List Bool) (all : List WatchState) (i : ℕ)
    (b : Bool) → i < length on → get_or on i b ≡ false
    → changed_where change (take i on) all ≡ changed_where change (take (suc i) on) all
changed_where-same change [] all i b within off = absurd (omega arith)
changed_where-same change (true ∷ on) all zero b within off = cc
changed_where-same change (false ∷ on) [] zero b within off = refl
changed_where-same change (false ∷ on) (watch ∷ all) zero b within off = refl
changed_where-same change (true ∷ on) [] (suc i) b within off = refl
changed_where-same change (false ∷ on) [] (suc i) b within off = refl
changed_where-same change (true ∷ on) (watch ∷ all) (suc i) b within off =
    ap (λ rest. change watch ∷ rest) (changed_where-same change on all i b (omega arith) off)
changed_where-same change (false ∷ on) (watch ∷ all) (suc i) b within off =
    ap (λ rest. watch ∷ rest) (changed_where-same change on all i b (omega arith) off)

-- the report of one more watch
reports-more : (on : List Bool) (all : List WatchState) (i : ℕ) (b : Bool) (d : WatchState)
    → length on ≡ length all → i < length on → get_or on i b ≡ true
    → reports (take (suc i) on) all ≡ reports (take i on) all ++ reported (get_or all i d)
reports-more [] all i b d same within is_on = absurd (omega arith)
reports-more (first ∷ on) [] i b d same within is_on = absurd (omega arith)
reports-more (true ∷ on) (watch ∷ all) zero b d same within is_on = append-nil (reported watch)
reports-more (false ∷ on) (watch ∷ all) zero b d same within is_on = cc
reports-more (true ∷ on) (watch ∷ all) (suc i) b d same within is_on =
    rw (reports-more on all i b d (omega arith) (omega arith) is_on) (sym (append_assoc (reported watch) (reports (take i on) all) (reported (get_or all i d))))
reports-more (false ∷ on) (watch ∷ all) (suc i) b d same within is_on =
    reports-more on all i b d (omega arith) (omega arith) is_on

reports-same : (on : List Bool) (all : List WatchState) (i : ℕ) (b : Bool)
    → i < length on → get_or on i b ≡ false → reports (take i on) all ≡ reports (take (suc i) on) all
reports-same [] all i b within off = absurd (omega arith)
reports-same (true ∷ on) all zero b within off = cc
reports-same (false ∷ on) [] zero b within off = refl
reports-same (false ∷ on) (watch ∷ all) zero b within off = refl
reports-same (true ∷ on) [] (suc i) b within off = refl
reports-same (false ∷ on) [] (suc i) b within off = refl
reports-same (true ∷ on) (watch ∷ all) (suc i) b within off =
    ap (λ rest. reported watch ++ rest) (reports-same on all i b (omega arith) off)
reports-same (false ∷ on) (watch ∷ all) (suc i) b within off = reports-same on all i b (omega arith) off

-- watches of which some were changed are as many as before
same_count : {X : Type 0} (start old : List X) (state : X → WatchState) (change : WatchState → WatchState)
    (on : List Bool) → map state old ≡ changed_where change on (map state start) → length old ≡ length start
same_count start old state change on so_far =
    let e = ap length so_far in
    omega (arith, e, length-map old state, length-map start state, length-changed_where change on (map state start))

-- a watch that is turned on is changed in its place
pub next_changed : {X : Type 0} (start old : List X) (i : ℕ) (was now : X) (state : X → WatchState)
    (change : WatchState → WatchState) (on : List Bool) → length on ≡ length start → i < length on
    → get_or on i false ≡ true → was ≡ get_or old i was → state now ≡ change (state was)
    → map state old ≡ changed_where change (take i on) (map state start)
    → map state (set old i now) ≡ changed_where change (take (i + 1) on) (map state start)
next_changed start old i was now state change on same within is_on read moved so_far =
    let n = same_count start old state change (take i on) so_far in
    let here : get_or (map state old) i (state was) ≡ state was =
    get_or-map state old i was (state was) (omega arith) ∙ ap state (sym read) in
    let e : state now ≡ change (get_or (changed_where change (take i on) (map state start)) i (state was)) =
    moved ∙ ap change (sym here ∙ ap (λ all. get_or all i (state was)) so_far) in
    rw (add-one, map-set) (ap (λ all. set all i (state now)) so_far
    ∙ changed_where-more change on (map state start) i false (state was) (state now) (omega (arith, length-map start state)) within is_on e)

-- a watch that is off stays in its place
pub next_same : (change : WatchState → WatchState) (on : List Bool) (old all : List WatchState) (i : ℕ)
    → i < length on → get_or on i false ≡ false → old ≡ changed_where change (take i on) all
    → old ≡ changed_where change (take (i + 1) on) all
next_same change on old all i within off so_far = rw add-one (so_far ∙ changed_where-same change on all i false within off)

-- a watch that is as it was changes nothing of the list
pub map-set_same : {X : Type 0} (start old : List X) (i : ℕ) (was now : X) (state : X → WatchState)
    (change : WatchState → WatchState) (on : List Bool) → length on ≡ length start → i < length on
    → was ≡ get_or old i was → state now ≡ state was
    → map state old ≡ changed_where change (take i on) (map state start)
    → map state (set old i now) ≡ changed_where change (take i on) (map state start)
map-set_same start old i was now state change on same within read kept so_far =
    let n = same_count start old state change (take i on) so_far in
    let here : get_or (map state old) i (state was) ≡ state was =
    get_or-map state old i was (state was) (omega arith) ∙ ap state (sym read) in
    rw map-set (ap (λ w. set (map state old) i w) (kept ∙ sym here) ∙ (set-get_or (map state old) i (state was) ∙ so_far))

-- the report of a watch that is turned on is added
pub next_reported : {X : Type 0} (all : List X) (i : ℕ) (one : X) (state : X → WatchState) (on : List Bool)
    (old text new : List ℕ) → length on ≡ length all → i < length on → get_or on i false ≡ true
    → one ≡ get_or all i one → text ≡ old ++ reports (take i on) (map state all)
    → new ≡ text ++ reported (state one) → new ≡ old ++ reports (take (i + 1) on) (map state all)
next_reported all i one state on old text new same within is_on read so_far more =
    let e : get_or (map state all) i (state one) ≡ state one =
    get_or-map state all i one (state one) (omega arith) ∙ ap state (sym read) in
    let r = reports-more on (map state all) i false (state one) (omega (arith, length-map all state)) within is_on in
    rw (add-one, r, e, more, so_far) (append_assoc old (reports (take i on) (map state all)) (reported (state one)))

-- the reports stay where a watch is off
pub next_silent : (on : List Bool) (all : List WatchState) (i : ℕ) (old text : List ℕ)
    → i < length on → get_or on i false ≡ false → text ≡ old ++ reports (take i on) all
    → text ≡ old ++ reports (take (i + 1) on) all
next_silent on all i old text within off so_far =
    rw add-one (so_far ∙ ap (λ t. old ++ t) (reports-same on all i false within off))

-- bytes that grew twice have grown
pub Grew-trans : (old mid new : List ℕ) → Grew old mid → Grew mid new → Grew old new
Grew-trans old mid new first second =
    (first.0 ++ second.0, second.1 ∙ (ap (λ text. text ++ second.0) first.1 ∙ append_assoc old first.0 second.0))
