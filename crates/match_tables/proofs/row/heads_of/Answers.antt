use Rattle.std.proofs.Common.{arith, take}
use Rattle.match_tables.proofs.Moved.{place-there}
use Rattle.match_tables.proofs.Naming.{NamesIn, each-more, each-all, names-in, still-named, item-place, item-equation}
use Rattle.match_tables.proofs.row.heads_of.Goals as goal

pub equation-requires : goal.equation-requires
equation-requires c = item-equation c.args.rules.now c.args.items.now c.requires.items c.loop-item.item-index c.loop-item-test.true

pub cell-cell-requires : goal.cell-cell-requires
cell-cell-requires c = place-there c.args.rules.now _ c.equation.result.now c.equation.ensures _ (item-place c.args.rules.now c.args.items.now c.requires.items c.loop-item.item-index c.loop-item-test.true)

pub loop-item-preserved : goal.loop-item-preserved
loop-item-preserved c =
    each-more (NamesIn c.args.rules.now c.push_named.new.heads.keys) c.args.items.now c.loop-item.item-index c.loop-item-test.true
    (still-named c.args.rules.now c.loop-item.heads.keys c.push_named.new.heads.keys (take c.loop-item.item-index c.args.items.now) c.in_ok-push_named.ensures.keeps c.loop-item.invariant)
    (names-in c.args.rules.now _ _ c.equation.result.now c.equation.ensures c.cell-cell.result c.cell-cell.ensures.value c.classes.result.now c.classes.ensures c.push_named.new.heads.keys c.in_ok-push_named.ensures.named)

pub returns : goal.returns
returns c = each-all (NamesIn c.args.rules.now c.loop-item.heads.keys) c.args.items.now c.loop-item.item-index (omega (arith, c.loop-item-test.false)) c.loop-item.invariant
