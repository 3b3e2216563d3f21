use Rattle.std.proofs.Common.{ℕ, List, Result, sym, subst}
use Rattle.term_lex.specs.declared.syntax.Syntax.{Syntax}
use Rattle.term_lex.specs.Lexemes.{IsAnswerBy}
use Rattle.written_terms.specs.declared.error.ReadError.{ReadError}
use Rattle.written_terms.specs.Notation.{IsSomeTerm}
use Rattle.written_terms.specs.Answering.{AnswersRight}
use Rattle.def_file.specs.Notations.{notation_of}
use Rattle.def_file.proofs.notations.skip_term.Goals as goal

-- this is what reading a term comes to, in the notation
abbrev Skips : List ℕ → ℕ → Result ℕ ReadError → Syntax → Type 0
Skips text at answer syntax = AnswersRight (IsAnswerBy ((notation_of syntax).Misplaced (IsSomeTerm (notation_of syntax))) (IsSomeTerm (notation_of syntax)) text at) answer

pub returns-in-Standmath : goal.returns-in-Standmath
returns-in-Standmath c = subst (Skips c.args.text.now c.args.at c.skip_term.result) (sym c.in-Standmath.is) c.skip_term.ensures.answer

pub returns-in-LispM : goal.returns-in-LispM
returns-in-LispM c = subst (Skips c.args.text.now c.args.at c.skip_term-in-LispM.result) (sym c.in-LispM.is) c.skip_term-in-LispM.ensures.answer
