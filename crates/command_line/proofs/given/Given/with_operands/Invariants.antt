use Rattle.std.proofs.Common.{List, ◌++◌, map, string_bytes, take}
use Rattle.command_line.specs.Parts.{Part, operand}
use Rattle.command_line.specs.Given.{AreGiven}
use Rattle.command_line.proofs.given.Given.with_operands.Given as goal

abbrev pub invariant-loop-word : goal.invariant-loop-word
invariant-loop-word l = (parts : List Part) → AreGiven parts l.fn.self → AreGiven (parts ++ map operand (map string_bytes (take l.word-index l.words))) l.given
