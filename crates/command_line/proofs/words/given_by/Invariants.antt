use Rattle.std.proofs.Common.{List, map, string_bytes, length}
use Rattle.command_line.specs.Parts.{Part}
use Rattle.command_line.specs.Given.{AreGiven, LeadTo}
use Rattle.command_line.proofs.words.given_by.Given as goal

abbrev pub invariant-loop-word : goal.invariant-loop-word
invariant-loop-word l = (parts : List Part) × AreGiven parts l.given × LeadTo parts (map string_bytes l.fn.words) (map string_bytes l.rest)

abbrev pub decreases-loop-word : goal.decreases-loop-word
decreases-loop-word l = length l.rest
