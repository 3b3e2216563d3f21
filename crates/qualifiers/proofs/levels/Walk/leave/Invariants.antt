use Rattle.std.proofs.Common.{length}
use Rattle.qualifiers.proofs.levels.Walk.leave.Given as goal

abbrev pub decreases-loop-member : goal.decreases-loop-member
decreases-loop-member l = length l.self.open.items
