use Rattle.std.proofs.Common.{◌≡◌, ◌≤◌, length}
use Rattle.term_input.specs.Streams.{MayTake}
use Rattle.ei_program.specs.Reading.{Goes, IsCounted}
use Rattle.ei_program.proofs.Counting.{to_take}
use Rattle.ei_program.proofs.reading.take_on.Given as goal

-- bytes were taken and none given up, and more can be taken
abbrev pub invariant-pieces : goal.invariant-pieces
invariant-pieces g l = record {
  may : MayTake l.stream;
  count : IsCounted (g.I.Source.faults l.initial.input) (g.I.Source.faults l.input) l.initial.stream l.stream;
  through : g.I.Source.through l.input ≡ g.I.Source.through l.initial.input;
  place : l.stream.place ≡ l.initial.stream.place;
  more : length l.initial.stream.bytes ≤ length l.stream.bytes;
  gone : Goes (g.I.Source.left l.initial.input) (g.I.Source.left l.input) l.initial.stream l.stream (λ taken. Unit {0});
}

abbrev pub decreases-pieces : goal.decreases-pieces
decreases-pieces g l = to_take l.stream
