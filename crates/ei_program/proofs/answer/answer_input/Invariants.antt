use Rattle.std.proofs.Common.{◌≡◌, ◌+◌, ◌-◌}
use Rattle.term_input.specs.Streams.{nothing_held}
use Rattle.ei_program.specs.Definitions.{definitions_of}
use Rattle.ei_program.specs.Reading.{IsCounted}
use Rattle.ei_program.proofs.Answered.{Answered}
use Rattle.ei_program.proofs.answer.answer_input.Given as goal

-- the first terms are answered, and the equations and their table are as they were
abbrev pub invariant-terms : goal.invariant-terms
invariant-terms g l = record {
  same : l.ready.regular ≡ l.initial.ready.regular;
  symbols : l.ready.symbols ≡ l.initial.ready.symbols;
  count : IsCounted (g.I.Source.faults l.initial.input) (g.I.Source.faults l.input) (nothing_held l.settings.input_bytes) l.stream;
  through : g.I.Source.through l.input ≡ g.I.Source.through l.initial.input;
  output : g.O.Sink.faults l.output ≡ g.O.Sink.faults l.initial.output;
  so_far : Answered l.settings (definitions_of l.initial.ready) (g.I.Source.left l.initial.input) (g.I.Source.left l.input) l.stream (g.O.Sink.taken l.initial.output) (g.O.Sink.taken l.output) l.any_question;
}

-- each term has bytes of its own
abbrev pub decreases-terms : goal.decreases-terms
decreases-terms g l = l.settings.input_bytes + 1 - l.stream.place
