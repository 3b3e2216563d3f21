use Rattle.match_tables.proofs.Looked.{IsNoneOf}
use Rattle.match_tables.proofs.row.State.scanned.Given as goal

abbrev pub invariant-loop-place : goal.invariant-loop-place
invariant-loop-place l = IsNoneOf l.self.heads.keys l.head l.place
