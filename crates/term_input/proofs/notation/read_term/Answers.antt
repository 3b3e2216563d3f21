use Rattle.std.proofs.Common.{sym, subst}
use Rattle.term_lex.specs.declared.syntax.Syntax.{Syntax}
use Rattle.symbol_table.specs.Table.{names_of}
use Rattle.symbol_table.specs.Reading.{read}
use Rattle.written_terms.specs.Refusing.{IsTermAt}
use Rattle.written_terms.specs.Answering.{AnswersRight, as_read}
use Rattle.def_file.specs.Notations.{notation_of}
use Rattle.term_input.proofs.notation.read_term.Goals as goal

pub returns-in-Standmath-clause-answer : goal.returns-in-Standmath-clause-answer
returns-in-Standmath-clause-answer c = subst (λ (syntax : Syntax). AnswersRight (IsTermAt (notation_of syntax) (names_of c.args.symbols.now) c.args.text.now c.args.at) (as_read (read c.read_term.new.symbols) c.read_term.result)) (sym c.in-Standmath.is) c.read_term.ensures.answer

pub returns-in-LispM-clause-answer : goal.returns-in-LispM-clause-answer
returns-in-LispM-clause-answer c = subst (λ (syntax : Syntax). AnswersRight (IsTermAt (notation_of syntax) (names_of c.args.symbols.now) c.args.text.now c.args.at) (as_read (read c.read_term-in-LispM.new.symbols) c.read_term-in-LispM.result)) (sym c.in-LispM.is) c.read_term-in-LispM.ensures.answer
