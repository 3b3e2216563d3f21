use Rattle.std.proofs.Common.{◌≡◌, ◌++◌, take, flat_map}
use Rattle.eq_watch.specs.Watching.{Grew}
use Rattle.eq_watch.specs.Noting.{event_line}
use Rattle.eq_watch.proofs.trace.TraceWatch.report.Given as goal

-- the lines of the replacements so far are written
abbrev pub invariant-loop-event : goal.invariant-loop-event
invariant-loop-event l = record {
  text : l.into.items ≡ l.fn.into.items ++ flat_map event_line (take l.event-index l.event-items);
  front : Grew l.fn.into.items l.into.items;
}
