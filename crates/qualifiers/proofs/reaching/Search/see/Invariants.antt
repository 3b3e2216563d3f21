use Rattle.std.proofs.Common.{take}
use Rattle.qualifiers.specs.Graphs.{Sees}
use Rattle.qualifiers.proofs.reaching.Search.see.Given as goal

abbrev pub invariant-loop-place : goal.invariant-loop-place
invariant-loop-place l = Sees (take l.place-index l.places) l.initial.self.seen.items l.self.seen.items l.initial.self.pending.items l.self.pending.items
