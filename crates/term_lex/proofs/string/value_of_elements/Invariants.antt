use Rattle.std.proofs.Common.{length}
use Rattle.term_lex.proofs.Strings.{IsRead}
use Rattle.term_lex.proofs.string.value_of_elements.Given as goal

-- what has been read is the value so far
abbrev pub invariant-loop-rest : goal.invariant-loop-rest
invariant-loop-rest l = IsRead l.elements l.value.items l.rest

abbrev pub decreases-loop-rest : goal.decreases-loop-rest
decreases-loop-rest l = length l.rest
