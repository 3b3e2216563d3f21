use Rattle.std.proofs.Common.{arith}
use Rattle.match_tables.proofs.Moved.{moved-none, step-push, step-pass, item-cell, step-done, place-of, cell-small}
use Rattle.match_tables.proofs.further.further.Goals as goal
use Rattle.match_tables.proofs.further.further.Goals.{then-moves_on+in_ok-push, else-moves_on}

pub loop-item-init : goal.loop-item-init
loop-item-init c = moved-none c.args.rules.now c.args.step c.push_behind_roots.new.next.items c.in_ok-push_behind_roots.ensures

pub loop-item-preserved : goal.loop-item-preserved
loop-item-preserved c =
    elim c.if-moves_on.branch [
      | then-moves_on+in_ok-push w ↦ rw (w.next-is, w.in_ok-push.ensures.items) (step-push c.args.rules.now c.args.step c.args.items.now c.loop-item.next.items c.loop-item.item-index c.requires.items c.loop-item-test.true c.loop-item.invariant (c.moves_on.ensures.0 w.if-moves_on.true))
      | else-moves_on w ↦ rw w.next-is (step-pass c.args.rules.now c.args.step c.args.items.now c.loop-item.next.items c.loop-item.item-index c.requires.items c.loop-item-test.true c.loop-item.invariant (λ m. let t = c.moves_on.ensures.1 m in let f = w.if-moves_on.false in absurd (cc)))
    ]

pub moves_on-requires : goal.moves_on-requires
moves_on-requires c = place-of c.args.rules.now _ _ (item-cell c.args.rules.now c.args.step c.args.items.now c.loop-item.next.items c.loop-item.item-index c.requires.items c.loop-item-test.true c.loop-item.invariant)

pub overflow_add-item : goal.overflow_add-item
overflow_add-item c =
    let small = cell-small c.args.rules.now c.requires.rules _ _ (item-cell c.args.rules.now c.args.step c.args.items.now c.loop-item.next.items c.loop-item.item-index c.requires.items c.loop-item-test.true c.loop-item.invariant) in
    omega (arith, small)

pub returns : goal.returns
returns c = step-done c.args.rules.now c.args.step c.args.items.now c.loop-item.next.items c.loop-item.item-index c.requires.items (omega (arith, c.loop-item-test.false)) c.loop-item.invariant
