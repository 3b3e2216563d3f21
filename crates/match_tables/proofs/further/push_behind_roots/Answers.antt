use Rattle.std.proofs.Common.{arith}
use Rattle.match_tables.proofs.Moved.{roots-none, roots-push, roots-pass, roots-done, root-place, element-at, length-left_sides_of}
use Rattle.match_tables.proofs.further.push_behind_roots.Goals as goal
use Rattle.match_tables.proofs.further.push_behind_roots.Goals.{then-moves_on+in_ok-push, else-moves_on}

pub loop-equation-init : goal.loop-equation-init
loop-equation-init c = roots-none c.args.rules.now c.args.step c.args.next.now.items c.requires.none

pub moves_on-requires : goal.moves_on-requires
moves_on-requires c =
    let x = element-at c.args.rules.now.equations c.loop-equation.equation (omega (arith, c.len-equation-end.ensures)) in
    root-place c.args.rules.now c.loop-equation.equation x.0 x.1

pub loop-equation-preserved : goal.loop-equation-preserved
loop-equation-preserved c =
    elim c.if-moves_on.branch [
      | then-moves_on+in_ok-push w ↦ rw (w.next-is, w.in_ok-push.ensures.items) (roots-push c.args.rules.now c.args.step c.loop-equation.equation c.loop-equation.next.items c.loop-equation.invariant (c.moves_on.ensures.0 w.if-moves_on.true))
      | else-moves_on w ↦ rw w.next-is (roots-pass c.args.rules.now c.args.step c.loop-equation.equation c.loop-equation.next.items c.loop-equation.invariant (λ m. let t = c.moves_on.ensures.1 m in let f = w.if-moves_on.false in absurd (cc)))
    ]

pub returns : goal.returns
returns c = roots-done c.args.rules.now c.args.step c.loop-equation.equation c.loop-equation.next.items (omega (arith, c.loop-equation-test.false, c.len-equation-end.ensures, length-left_sides_of c.args.rules.now)) c.loop-equation.invariant
