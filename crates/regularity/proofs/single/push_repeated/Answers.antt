use Rattle.std.proofs.Common.{arith}
use Rattle.regularity.proofs.Singles.{repeated_here, place_found, place_missed, repeated_done}
use Rattle.regularity.proofs.single.push_repeated.Goals as goal
use Rattle.regularity.proofs.single.push_repeated.Goals.{then-repeats+in_ok-push, else-repeats}

pub loop-place-preserved : goal.loop-place-preserved
loop-place-preserved c =
    let rules = c.args.rules.now in
    let e = c.equation.result.now in
    let here = repeated_here rules c.args.first e c.equation.ensures c.loop-place.place in
    elim c.if-repeats.branch [
      | then-repeats+in_ok-push w ↦ rw (w.found-is, w.in_ok-push.ensures.ok, w.new.ensures)
          (place_found rules c.args.first e c.equation.ensures c.loop-place.found 1 c.loop-place.place (here.0 (c.repeats.ensures.0 w.if-repeats.true)) c.loop-place.invariant)
      | else-repeats w ↦ rw w.found-is
          (place_missed rules c.args.first e c.equation.ensures c.loop-place.found 1 c.loop-place.place (λ h. let yes = c.repeats.ensures.1 (here.1 h) in let no = w.if-repeats.false in cc) c.loop-place.invariant)
    ]

pub returns : goal.returns
returns c = repeated_done c.args.rules.now c.args.first c.equation.result.now c.equation.ensures c.loop-place.found c.loop-place.place (omega arith) c.loop-place.invariant
