use Rattle.std.proofs.Common.{arith}
use Rattle.eq_watch.specs.Watching.{cleared}
use Rattle.eq_watch.proofs.Changing.{next_changed, next_same}
use Rattle.eq_watch.proofs.boxes.clear_each.Goals as goal
use Rattle.eq_watch.proofs.boxes.clear_each.Goals.{then-is_cleared, else-is_cleared}

pub loop-i-preserved : goal.loop-i-preserved
loop-i-preserved g c = elim c.if-is_cleared.branch [
  | then-is_cleared w ↦
      rw w.watch-is record {
        changed = next_changed c.args.watch.now.items c.loop-i.watch.items c.loop-i.i w.index_mut.result.now
            w.clear_one.new.watch _ cleared c.args.on.now (omega (arith, c.args.watch.now.ok.0)) (omega arith)
            w.if-is_cleared.true w.index_mut.ensures.value w.clear_one.ensures c.loop-i.invariant.changed;
        count = c.loop-i.invariant.count;
      }
  | else-is_cleared w ↦
      rw w.watch-is record { changed = next_same cleared c.args.on.now _ _ c.loop-i.i (omega arith) w.if-is_cleared.false c.loop-i.invariant.changed; count = c.loop-i.invariant.count }
]
