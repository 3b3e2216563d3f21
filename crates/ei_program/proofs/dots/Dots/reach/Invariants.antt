use Rattle.std.proofs.Common.{◌-◌, length}
use Rattle.ei_program.proofs.dots.Dots.reach.Given as goal

abbrev pub decreases-bytes : goal.decreases-bytes
decreases-bytes l = length l.bytes - l.self.looked_at
