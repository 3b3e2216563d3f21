use Rattle.std.proofs.Common.{◌<◌, length, get_or, refl, ap, ◌∙◌, arith}
use Rattle.std.proofs.lemmas.List.{get_or_read}
use Rattle.eq_watch.specs.declared.profile.Used.{Used}
use Rattle.eq_watch.specs.Profiling.{profile_with, used_again}
use Rattle.eq_watch.proofs.Counts.{used_again-set, used_again-insert}
use Rattle.eq_watch.proofs.profile.ProfileWatch.seen.Goals as goal
use Rattle.eq_watch.proofs.profile.ProfileWatch.seen.Goals.{else-at-len-via-then-at-len+else-index-equation, else-at-len-via-else-at-len}

pub returns-then-index-equation-clause-ok : goal.returns-then-index-equation-clause-ok
returns-then-index-equation-clause-ok c =
    let place = rw c.deref.ensures.value at c.place_of-at.ensures.place in
    ap profile_with (used_again-set c.self.inside.used.items c.place_of-at.result c.args.event.equation
    c.index.result.now c.index-then-index-equation.result.now _ (omega (arith, c.self.inside.used.ok.0))
    (λ k d h. place.0 k d (omega arith) h) c.index.ensures c.if-index-equation.true
    c.index-then-index-equation.ensures refl c.saturating_add-times.ensures
    ∙ ap (λ numbers. used_again numbers c.args.event.equation) c.self.view_is)

pub returns-in_ok-insert-clause-ok : goal.returns-in_ok-insert-clause-ok
returns-in_ok-insert-clause-ok c =
    let place = rw c.deref.ensures.value at c.place_of-at.ensures.place in
    let items = c.self.inside.used.items in
    let at = c.place_of-at.result in
    let equation = c.args.event.equation in
    let above : (d : Used) → at < length items → equation < (get_or items at d).equation =
    λ d h. let le = place.1 at d (omega arith) h in
    elim c.else-at-len.branch [
      | else-at-len-via-then-at-len+else-index-equation w ↦
          let read = get_or_read items at w.index.result.now h w.index.ensures d in
          let same = ap (λ (u : Used). u.equation) read in
          let other = w.if-index-equation.false in
          omega (arith, le, same, other)
      | else-at-len-via-else-at-len w ↦ let past = w.if-at-len.false in absurd (omega (arith, past, c.self.inside.used.ok.0))
    ] in
    rw c.in_ok-insert.ensures.items (ap profile_with (used_again-insert items at equation _ (omega (arith, c.self.inside.used.ok.0))
    (λ k d h. place.0 k d (omega arith) h) above refl refl
    ∙ ap (λ numbers. used_again numbers equation) c.self.view_is))
