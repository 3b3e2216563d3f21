use Rattle.std.proofs.Common.{◌≡◌, ◌++◌, map, take}
use Rattle.eq_watch.specs.Watching.{Grew}
use Rattle.eq_watch.specs.Telling.{reports}
use Rattle.eq_watch.proofs.boxes.report_each.Given as goal

abbrev pub invariant-loop-i : goal.invariant-loop-i
invariant-loop-i g l = record {
  text : l.into.items ≡ l.fn.into.items ++ reports (take l.i l.on) (map (λ b. (goal.Watch-dyn g (b.vtable, b.value)).state b.value) l.watch.items);
  front : Grew l.fn.into.items l.into.items;
}
