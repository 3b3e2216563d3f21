use Rattle.std.proofs.Common.{arith}
use Rattle.eq_watch.proofs.Texts.{trace_report}
use Rattle.eq_watch.proofs.trace.TraceWatch.report.Goals as goal

pub returns-clause-ok : goal.returns-clause-ok
returns-clause-ok c =
    trace_report c.args.into.now.items c.loop-event.into.items c.deref-event-items.result.now
    c.self.inside.events.items c.loop-event.event-index c.args.self.now c.loop-event.invariant.text (omega arith)
    c.deref-event-items.ensures.value c.self.view_is
