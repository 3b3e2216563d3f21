-- The notations of terms.
use Rattle.term_lex.specs.declared.syntax.Syntax.{Syntax}
use Rattle.term_lex.specs.declared.syntax.Syntax.TheVariants.{Standmath, LispM}
use Rattle.written_terms.specs.Notation.{Notation}
use Rattle.standmath.specs.Notation.{standmath}
use Rattle.lisp_m.specs.Notation.{lisp_m}

-- the notation that the syntax names
abbrev pub notation_of : Syntax → Notation
notation_of Standmath = standmath
notation_of LispM = lisp_m
