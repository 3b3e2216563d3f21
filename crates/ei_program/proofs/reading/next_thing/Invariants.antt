use Rattle.std.proofs.Common.{◌≡◌}
use Rattle.symbol_table.specs.Table.{Keeps}
use Rattle.ei_program.specs.Reading.{Goes, IsCounted}
use Rattle.ei_program.proofs.Counting.{to_take}
use Rattle.ei_program.proofs.reading.next_thing.Given as goal

-- bytes were taken and none given up
abbrev pub invariant-tries : goal.invariant-tries
invariant-tries g l = record {
  keeps : Keeps l.initial.symbols l.symbols;
  count : IsCounted (g.I.Source.faults l.initial.input) (g.I.Source.faults l.input) l.initial.stream l.stream;
  through : g.I.Source.through l.input ≡ g.I.Source.through l.initial.input;
  place : l.stream.place ≡ l.initial.stream.place;
  gone : Goes (g.I.Source.left l.initial.input) (g.I.Source.left l.input) l.initial.stream l.stream (λ taken. Unit {0});
}

abbrev pub decreases-tries : goal.decreases-tries
decreases-tries g l = to_take l.stream
