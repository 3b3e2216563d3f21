use Rattle.std.proofs.Common.{◌≡◌, ◌≤◌, length, take}
use Rattle.ei_program.specs.Reading.{Goes, IsCounted}
use Rattle.ei_program.proofs.Skipping.{AreSkipped}
use Rattle.ei_program.proofs.Counting.{to_take}
use Rattle.ei_program.proofs.reading.skip_gap.Given as goal

-- all between the first place and the place of what is held is skipped
abbrev pub invariant-gap : goal.invariant-gap
invariant-gap g l = record {
  count : IsCounted (g.I.Source.faults l.initial.input) (g.I.Source.faults l.input) l.initial.stream l.stream;
  through : g.I.Source.through l.input ≡ g.I.Source.through l.initial.input;
  from : l.initial.stream.place ≤ l.stream.place;
  within : l.stream.place ≤ l.stream.limit;
  gone : Goes (g.I.Source.left l.initial.input) (g.I.Source.left l.input) l.initial.stream l.stream
      (λ taken. AreSkipped l.in_comment l.initial.stream l.stream taken × (l.stream.place ≤ length (take l.initial.stream.limit taken)));
}

abbrev pub decreases-gap : goal.decreases-gap
decreases-gap g l = to_take l.stream
