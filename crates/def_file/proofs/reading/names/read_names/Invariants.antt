use Rattle.std.proofs.Common.{◌-◌, length}
use Rattle.term_lex.specs.declared.token.TokenKind.TheVariants.{Name, Comma}
use Rattle.term_lex.specs.Parts.{IsKind}
use Rattle.def_file.specs.Grammar.{IsToken}
use Rattle.def_file.proofs.Lists.{ListBegun}
use Rattle.term_lex.proofs.Telling.{Plain}
use Rattle.def_file.proofs.reading.names.read_names.Given as goal

abbrev pub invariant-names : goal.invariant-names
invariant-names l = ListBegun Plain (IsKind Comma) (IsToken Name) l.text l.at l.names.items l.end

abbrev pub decreases-names : goal.decreases-names
decreases-names l = length l.text - l.end
