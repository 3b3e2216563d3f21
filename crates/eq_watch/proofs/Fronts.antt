-- Events that watches were told of, one after the other, and fronts of them.
use Rattle.std.proofs.Common.{◌≡◌, ℕ, zero, suc, Bool, true, false, List, [], ◌∷◌, ◌++◌, length, take, refl, sym, ap, ◌∙◌, arith}
use Rattle.std.proofs.lemmas.List.{take_all}
use Rattle.eq_watch.specs.declared.event.Event.{Event}
use Rattle.eq_watch.specs.Watching.{WatchState, moved, moved_by}
use Rattle.eq_watch.specs.Telling.{changed_where, told, ToldFronts}

-- watches some of which were told are told fronts
pub told_fronts : (on : List Bool) (events : List Event) (all : List WatchState) (i : ℕ)
    → ToldFronts on events all (told (take i on) events all)
told_fronts [] events [] zero = refl
told_fronts [] events [] (suc i) = refl
told_fronts [] events (watch ∷ all) zero = refl
told_fronts [] events (watch ∷ all) (suc i) = refl
told_fronts (first ∷ on) events [] zero = refl
told_fronts (true ∷ on) events [] (suc i) = refl
told_fronts (false ∷ on) events [] (suc i) = refl
told_fronts (true ∷ on) events (watch ∷ all) zero = ((0, refl), told_fronts on events all zero)
told_fronts (false ∷ on) events (watch ∷ all) zero = (refl, told_fronts on events all zero)
told_fronts (true ∷ on) events (watch ∷ all) (suc i) =
    ((length events, ap (moved_by watch) (sym (take_all (length events) events (omega arith)))), told_fronts on events all i)
told_fronts (false ∷ on) events (watch ∷ all) (suc i) = (refl, told_fronts on events all i)

-- a watch that is told of events and then of more is told of all of them
pub moved_by-append : (watch : WatchState) (events more : List Event)
    → moved_by watch (events ++ more) ≡ moved_by (moved_by watch events) more
moved_by-append watch [] more = refl
moved_by-append watch (event ∷ events) more = moved_by-append (moved watch event) events more

-- watches that are told of events and then of more are told of all of them
pub told-append : (on : List Bool) (events more : List Event) (all : List WatchState)
    → told on (events ++ more) all ≡ told on more (told on events all)
told-append [] events more all = refl
told-append (true ∷ on) events more [] = refl
told-append (false ∷ on) events more [] = refl
told-append (true ∷ on) events more (watch ∷ all) = cc (moved_by-append watch events more, told-append on events more all)
told-append (false ∷ on) events more (watch ∷ all) = ap (λ rest. watch ∷ rest) (told-append on events more all)

-- all of some events and the first of more are the first of all of them
take-append : (events more : List Event) (count : ℕ)
    → (all : ℕ) × (take all (events ++ more) ≡ events ++ take count more)
take-append [] more count = (count, refl)
take-append (event ∷ events) more count =
    let rest = take-append events more count in (suc rest.0, ap (λ all. event ∷ all) rest.1)

-- watches that are told of events, and then of the first of more, are told of the first of all of them
pub fronts-append : (on : List Bool) (events more : List Event) (all new : List WatchState)
    → ToldFronts on more (told on events all) new → ToldFronts on (events ++ more) all new
fronts-append [] events more [] new h = h
fronts-append [] events more (watch ∷ all) new h = h
fronts-append (true ∷ on) events more [] new h = h
fronts-append (false ∷ on) events more [] new h = h
fronts-append (true ∷ on) events more (watch ∷ all) [] h = h
fronts-append (false ∷ on) events more (watch ∷ all) [] h = h
fronts-append (true ∷ on) events more (watch ∷ all) (told ∷ new) h =
    let count = take-append events more h.0.0 in (
      (count.0, h.0.1 ∙ (sym (moved_by-append watch events (take h.0.0 more)) ∙ ap (moved_by watch) (sym count.1))),
      fronts-append on events more all new h.1,
    )
fronts-append (false ∷ on) events more (watch ∷ all) (told ∷ new) h = (h.0, fronts-append on events more all new h.1)

-- watches that some were told so are told fronts
pub fronts_from : (on : List Bool) (event : Event) (all new : List WatchState) (i : ℕ)
    → new ≡ changed_where (λ watch. moved watch event) (take i on) all → ToldFronts on (event ∷ []) all new
fronts_from on event all new i is = rw is (told_fronts on (event ∷ []) all i)
