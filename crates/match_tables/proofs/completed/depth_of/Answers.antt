use Rattle.std.proofs.Common.{arith}
use Rattle.match_tables.proofs.Depths.{counted-none, counted-more, counted-same, counted-all}
use Rattle.match_tables.proofs.completed.depth_of.Goals as goal
use Rattle.match_tables.proofs.completed.depth_of.Goals.{then-cell-end_of, else-cell-end_of}

pub loop-at-init : goal.loop-at-init
loop-at-init c = counted-none c.args.left.now c.args.cell c.requires

pub loop-at-preserved : goal.loop-at-preserved
loop-at-preserved c =
    elim c.if-cell-end_of.branch [
      | then-cell-end_of w ↦ rw w.depth-is (counted-more c.args.left.now c.args.cell c.loop-at.at c.loop-at.depth c.loop-at-test.true c.requires (omega (arith, w.if-cell-end_of.true, c.end_of.ensures)) c.loop-at.invariant)
      | else-cell-end_of w ↦ rw w.depth-is (counted-same c.args.left.now c.args.cell c.loop-at.at c.loop-at.depth c.loop-at-test.true c.requires (omega (arith, w.if-cell-end_of.false, c.end_of.ensures)) c.loop-at.invariant)
    ]

pub returns-clause-depth : goal.returns-clause-depth
returns-clause-depth c = counted-all c.args.left.now c.args.cell c.loop-at.at c.loop-at.depth (omega (arith, c.loop-at-test.false)) c.loop-at.invariant
