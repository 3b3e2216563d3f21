use Rattle.std.proofs.Common.{arith}
use Rattle.std.proofs.lemmas.Result.{err_from_is_err_and}
use Rattle.eq_watch.specs.Watching.{moved}
use Rattle.eq_watch.proofs.Changing.{next_changed, next_same, map-set_same}
use Rattle.eq_watch.proofs.Fronts.{fronts_from}
use Rattle.eq_watch.proofs.boxes.tell.Goals as goal
use Rattle.eq_watch.proofs.boxes.tell.Goals.{then-is_told+in_ok-tell_one, else-is_told}

pub returns-in_err-tell_one-clause-err : goal.returns-in_err-tell_one-clause-err
returns-in_err-tell_one-clause-err g c =
    let p = err_from_is_err_and c.from_residual.result c.from_residual.ensures.1 in
    rw p.1 (fronts_from _ _ _ _ _ (map-set_same c.args.watch.now.items c.loop-i.watch.items c.loop-i.i
    c.index_mut.result.now c.tell_one.new.watch _ (λ watch. moved watch c.args.event) c.args.on.now
    (omega (arith, c.args.watch.now.ok.0)) (omega arith) c.index_mut.ensures.value c.in_err-tell_one.ensures.err
    c.loop-i.invariant.changed))

pub loop-i-preserved : goal.loop-i-preserved
loop-i-preserved g c = elim c.if-is_told.branch [
  | then-is_told+in_ok-tell_one w ↦
      rw w.watch-is record {
        changed = next_changed c.args.watch.now.items c.loop-i.watch.items c.loop-i.i w.index_mut.result.now
            w.tell_one.new.watch _ (λ watch. moved watch c.args.event) c.args.on.now
            (omega (arith, c.args.watch.now.ok.0)) (omega arith) w.if-is_told.true w.index_mut.ensures.value
            w.in_ok-tell_one.ensures.ok c.loop-i.invariant.changed;
        count = c.loop-i.invariant.count;
      }
  | else-is_told w ↦
      rw w.watch-is record {
        changed = next_same (λ watch. moved watch c.args.event) c.args.on.now _ _ c.loop-i.i (omega arith)
            w.if-is_told.false c.loop-i.invariant.changed;
        count = c.loop-i.invariant.count;
      }
]
