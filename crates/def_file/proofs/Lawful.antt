-- Each notation is lawful.
use Rattle.term_lex.specs.declared.syntax.Syntax.{Syntax}
use Rattle.term_lex.specs.declared.syntax.Syntax.TheVariants.{Standmath, LispM}
use Rattle.written_terms.proofs.Notations.{IsLawful}
use Rattle.standmath.proofs.OneReading as standmath
use Rattle.lisp_m.proofs.OneReading as lisp_m
use Rattle.def_file.specs.Notations.{notation_of}

pub lawful_of : (syntax : Syntax) → IsLawful (notation_of syntax)
lawful_of Standmath = standmath.lawful
lawful_of LispM = lisp_m.lawful
