use Rattle.std.proofs.Common.{◌≡◌, ℕ, List, [], ◌++◌, length}
use Rattle.std.specs.Io.KnownBytes.{Appends}
use Rattle.eq_ports.proofs.sink.write_whole.Given as goal

-- a front of the bytes was taken, and no call failed
abbrev pub invariant-loop-rest : goal.invariant-loop-rest
invariant-loop-rest g l = record {
  front : List ℕ;
  parts : front ++ l.rest ≡ l.bytes;
  appended : Appends (g.K.Sink.taken l.initial.sink) (g.K.Sink.taken l.sink) front;
  steady : g.K.Sink.faults l.sink ≡ g.K.Sink.faults l.initial.sink;
  uncalled : l.bytes ≡ [] → l.sink ≡ l.initial.sink;
}

abbrev pub decreases-loop-rest : goal.decreases-loop-rest
decreases-loop-rest g l = length l.rest
