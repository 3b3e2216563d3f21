use Rattle.std.proofs.Common.{◌-◌, length}
use Rattle.standmath.proofs.Reached.{Reached}
use Rattle.standmath.proofs.scan.scan_term.Given as goal

abbrev pub invariant-tokens : goal.invariant-tokens
invariant-tokens l = Reached l.text l.at l.place l.met l.end

abbrev pub decreases-tokens : goal.decreases-tokens
decreases-tokens l = length l.text - l.end
