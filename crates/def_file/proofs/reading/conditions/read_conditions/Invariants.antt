use Rattle.std.proofs.Common.{◌-◌, length, map}
use Rattle.term_lex.specs.declared.token.TokenKind.TheVariants.{Comma}
use Rattle.term_lex.specs.Parts.{IsKind}
use Rattle.def_file.specs.Grammar.{IsCondition}
use Rattle.def_file.specs.Views.{condition}
use Rattle.def_file.proofs.Lists.{ListBegun}
use Rattle.def_file.specs.Notations.{notation_of}
use Rattle.def_file.proofs.reading.conditions.read_conditions.Given as goal

abbrev pub invariant-conditions : goal.invariant-conditions
invariant-conditions l = ListBegun (notation_of l.syntax).Misplaced (IsKind Comma) (IsCondition (notation_of l.syntax)) l.text l.at (map condition l.conditions.items) l.end

abbrev pub decreases-conditions : goal.decreases-conditions
decreases-conditions l = length l.text - l.end
