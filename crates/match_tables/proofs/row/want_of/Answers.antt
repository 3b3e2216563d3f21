use Rattle.std.proofs.Common.{arith}
use Rattle.match_tables.proofs.Moved.{place-there}
use Rattle.match_tables.proofs.Naming.{IsUntested, each-more, each-all, untested, item-place, item-equation, wants-read, wants-skip}
use Rattle.match_tables.proofs.row.want_of.Goals as goal

pub equation-requires : goal.equation-requires
equation-requires c = item-equation c.args.rules.now c.args.items.now c.requires.items c.loop-item.item-index c.loop-item-test.true

pub cell-cell-requires : goal.cell-cell-requires
cell-cell-requires c = place-there c.args.rules.now _ c.equation.result.now c.equation.ensures _ (item-place c.args.rules.now c.args.items.now c.requires.items c.loop-item.item-index c.loop-item-test.true)

pub returns-then-is_tested : goal.returns-then-is_tested
returns-then-is_tested c = wants-read c.args.rules.now c.args.items.now c.requires.items c.loop-item.item-index c.loop-item-test.true c.equation.result.now c.equation.ensures c.cell-cell.result c.cell-cell.ensures.value (c.is_tested.ensures.0 c.if-is_tested.true)

pub loop-item-preserved : goal.loop-item-preserved
loop-item-preserved c =
    each-more (IsUntested c.args.rules.now) c.args.items.now c.loop-item.item-index c.loop-item-test.true c.loop-item.invariant
    (untested c.args.rules.now _ _ c.equation.result.now c.equation.ensures c.cell-cell.result c.cell-cell.ensures.value (λ t. let yes = c.is_tested.ensures.1 t in let no = c.if-is_tested.false in absurd (cc)))

pub returns-else-is_empty : goal.returns-else-is_empty
returns-else-is_empty c =
    wants-skip c.args.rules.now c.args.items.now c.requires.items (grind arith)
    (each-all (IsUntested c.args.rules.now) c.args.items.now c.loop-item.item-index (omega (arith, c.loop-item-test.false)) c.loop-item.invariant)
