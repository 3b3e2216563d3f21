use Rattle.std.proofs.Common.{◌-◌, length}
use Rattle.term_lex.specs.declared.token.TokenKind.TheVariants.{Comma}
use Rattle.term_lex.specs.Parts.{IsKind}
use Rattle.def_file.specs.Grammar.{IsMember}
use Rattle.def_file.proofs.Lists.{ListBegun}
use Rattle.term_lex.proofs.Telling.{Plain}
use Rattle.def_file.proofs.reading.classes.read_members.Given as goal

abbrev pub invariant-members : goal.invariant-members
invariant-members l = ListBegun Plain (IsKind Comma) IsMember l.text l.at l.members.items l.end

abbrev pub decreases-members : goal.decreases-members
decreases-members l = length l.text - l.end
