-- The table of the reader: what may stand behind one more lexeme.
use Rattle.std.specs.Prelude.{Bool, true, false, Option, Some, None}
use Rattle.term_lex.specs.declared.token.TokenKind.{TokenKind}
use Rattle.term_lex.specs.declared.token.TokenKind.TheVariants.{Name, Numeral, Text, OpenRound, CloseRound, Comma}
use Rattle.standmath.specs.declared.place.Place.{Place}
use Rattle.standmath.specs.declared.place.Place.TheVariants.{Term, FirstArgument, AfterName, AfterTerm}

-- the place behind a lexeme of the kind, or none where it cannot stand; nested says that brackets are open
abbrev pub step_of : Place → TokenKind → Bool → Option Place
step_of Term Name nested = Some AfterName
step_of Term Numeral nested = Some AfterTerm
step_of Term Text nested = Some AfterTerm
step_of FirstArgument Name nested = Some AfterName
step_of FirstArgument Numeral nested = Some AfterTerm
step_of FirstArgument Text nested = Some AfterTerm
step_of FirstArgument CloseRound true = Some AfterTerm
step_of AfterName OpenRound nested = Some FirstArgument
step_of AfterName Comma true = Some Term
step_of AfterName CloseRound true = Some AfterTerm
step_of AfterTerm Comma true = Some Term
step_of AfterTerm CloseRound true = Some AfterTerm
step_of place kind nested = None

-- a term may end at the place
abbrev pub ends_term : Place → Bool
ends_term Term = false
ends_term FirstArgument = false
ends_term AfterName = true
ends_term AfterTerm = true
