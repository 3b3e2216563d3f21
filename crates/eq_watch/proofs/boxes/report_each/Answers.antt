use Rattle.std.proofs.Common.{arith}
use Rattle.std.proofs.lemmas.Result.{err_from_is_err_and}
use Rattle.eq_watch.proofs.Changing.{next_reported, next_silent, Grew-trans}
use Rattle.eq_watch.proofs.boxes.report_each.Goals as goal
use Rattle.eq_watch.proofs.boxes.report_each.Goals.{then-is_reported+in_ok-report_one, else-is_reported}

pub returns-in_err-report_one-clause-err : goal.returns-in_err-report_one-clause-err
returns-in_err-report_one-clause-err g c =
    let p = err_from_is_err_and c.from_residual.result c.from_residual.ensures.1 in
    rw p.1 (Grew-trans c.args.into.now.items c.loop-i.into.items c.report_one.new.into.items
    c.loop-i.invariant.front c.in_err-report_one.ensures.err)

pub loop-i-preserved : goal.loop-i-preserved
loop-i-preserved g c = elim c.if-is_reported.branch [
  | then-is_reported+in_ok-report_one w ↦
      rw w.into-is record {
        text = next_reported c.args.watch.now.items c.loop-i.i w.index.result.now _ c.args.on.now
            c.args.into.now.items c.loop-i.into.items w.report_one.new.into.items
            (omega (arith, c.args.watch.now.ok.0)) (omega arith) w.if-is_reported.true w.index.ensures
            c.loop-i.invariant.text w.in_ok-report_one.ensures.ok;
        front = Grew-trans c.args.into.now.items c.loop-i.into.items w.report_one.new.into.items
            c.loop-i.invariant.front (_, w.in_ok-report_one.ensures.ok);
      }
  | else-is_reported w ↦
      rw w.into-is record {
        text = next_silent c.args.on.now _ c.loop-i.i c.args.into.now.items c.loop-i.into.items (omega arith)
            w.if-is_reported.false c.loop-i.invariant.text;
        front = c.loop-i.invariant.front;
      }
]
