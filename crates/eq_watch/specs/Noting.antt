-- The lines of the watch `trace`, one by one.
use Rattle.std.specs.Prelude.{ℕ, List}
use Rattle.eq_watch.specs.declared.event.Event.{Event}
use Rattle.eq_watch.specs.Tracing.{trace_line}

-- the line of a replacement
abbrev pub event_line : Event → List ℕ
event_line event = trace_line event.number event.equation event.node event.made
