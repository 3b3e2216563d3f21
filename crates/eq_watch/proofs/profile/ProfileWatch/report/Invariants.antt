use Rattle.std.proofs.Common.{◌≡◌, ◌++◌, take, flat_map}
use Rattle.eq_watch.specs.Watching.{Grew}
use Rattle.eq_watch.specs.Using.{used_line}
use Rattle.eq_watch.proofs.profile.ProfileWatch.report.Given as goal

-- the lines of the equations so far are written
abbrev pub invariant-loop-used : goal.invariant-loop-used
invariant-loop-used l = record {
  text : l.into.items ≡ l.fn.into.items ++ flat_map used_line (take l.used-index l.used-items);
  front : Grew l.fn.into.items l.into.items;
}
