use Rattle.std.proofs.Common.{arith}
use Rattle.regularity.proofs.Singles.{unbound_here, right_small, place_found, place_missed, unbound_done, operation_done}
use Rattle.regularity.proofs.single.push_unbound.Goals as goal
use Rattle.regularity.proofs.single.push_unbound.Goals.{then-is_unbound+in_ok-push, else-is_unbound}

pub returns-in_default : goal.returns-in_default
returns-in_default c = operation_done c.args.rules.now c.args.first c.equation-equation.result.now c.equation-equation.ensures c.args.found.now (λ right is. c.in_default.not-Tree _ is) c.requires.before

pub new-requires-clause-place : goal.new-requires-clause-place
new-requires-clause-place c =
    let small = right_small c.args.rules.now c.args.first c.equation-equation.result.now c.equation-equation.ensures c.requires.rules c.in-Tree.right c.in-Tree.is in
    omega arith

pub loop-place-preserved : goal.loop-place-preserved
loop-place-preserved c =
    let rules = c.args.rules.now in
    let e = c.equation-equation.result.now in
    let here = unbound_here rules c.args.first e c.equation-equation.ensures c.in-Tree.right c.in-Tree.is c.loop-place.place in
    elim c.if-is_unbound.branch [
      | then-is_unbound+in_ok-push w ↦ rw (w.found-is, w.in_ok-push.ensures.ok, w.new.ensures)
          (place_found rules c.args.first e c.equation-equation.ensures c.loop-place.found 2 c.loop-place.place (here.0 (c.is_unbound.ensures.0 w.if-is_unbound.true)) c.loop-place.invariant)
      | else-is_unbound w ↦ rw w.found-is
          (place_missed rules c.args.first e c.equation-equation.ensures c.loop-place.found 2 c.loop-place.place (λ h. let yes = c.is_unbound.ensures.1 (here.1 h) in let no = w.if-is_unbound.false in cc) c.loop-place.invariant)
    ]

pub returns : goal.returns
returns c = unbound_done c.args.rules.now c.args.first c.equation-equation.result.now c.equation-equation.ensures c.loop-place.found c.in-Tree.right c.in-Tree.is c.loop-place.place (omega arith) c.loop-place.invariant
