use Rattle.std.proofs.Common.{◌+◌, length}
use Rattle.qualifiers.specs.Graphs.{unseen}
use Rattle.qualifiers.proofs.Searching.{IsSearch}
use Rattle.qualifiers.proofs.reaching.leads_back.Given as goal

abbrev pub invariant-loop-place : goal.invariant-loop-place
invariant-loop-place l = IsSearch l.graph l.start l.search.seen.items l.search.pending.items

abbrev pub decreases-loop-place : goal.decreases-loop-place
decreases-loop-place l = unseen l.search.seen.items + length l.search.pending.items
