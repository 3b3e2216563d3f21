use Rattle.std.proofs.Common.{arith}
use Rattle.match_tables.proofs.Lasts.{tested-cell, cell-tested, last-root, last-here, last-before, last-all}
use Rattle.match_tables.proofs.completed.last_tested.Goals as goal
use Rattle.match_tables.proofs.completed.last_tested.Goals.{then-is_tested, else-is_tested}

pub loop-at-init : goal.loop-at-init
loop-at-init c = last-root c.args.left.now c.requires

pub loop-at-preserved : goal.loop-at-preserved
loop-at-preserved c =
    elim c.if-is_tested.branch [
      | then-is_tested w ↦ rw w.last-is (last-here c.args.left.now c.loop-at.at (omega (arith, c.loop-at-test.true, c.len-at-end.ensures)) (tested-cell c.args.left.now c.loop-at.at c.cell.result c.cell.ensures.value (c.is_tested.ensures.0 w.if-is_tested.true)))
      | else-is_tested w ↦ rw w.last-is (last-before c.args.left.now c.loop-at.at c.loop-at.last (λ t. let yes = c.is_tested.ensures.1 (cell-tested c.args.left.now c.loop-at.at c.cell.result c.cell.ensures.value t) in let no = w.if-is_tested.false in absurd (cc)) c.loop-at.invariant)
    ]

pub returns : goal.returns
returns c = last-all c.args.left.now c.loop-at.at c.loop-at.last (omega (arith, c.loop-at-test.false, c.len-at-end.ensures)) c.loop-at.invariant
