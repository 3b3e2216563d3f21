use Rattle.std.proofs.Common.{sym, subst}
use Rattle.term_lex.specs.declared.syntax.Syntax.{Syntax}
use Rattle.symbol_table.specs.Table.{names_of}
use Rattle.symbol_table.specs.Reading.{read_pattern}
use Rattle.written_terms.specs.Refusing.{IsPatternAt}
use Rattle.written_terms.specs.Answering.{AnswersRight, as_read}
use Rattle.def_file.specs.Notations.{notation_of}
use Rattle.def_file.proofs.notations.read_pattern.Goals as goal

pub returns-in-Standmath-clause-answer : goal.returns-in-Standmath-clause-answer
returns-in-Standmath-clause-answer c = subst (λ (syntax : Syntax). AnswersRight (IsPatternAt (notation_of syntax) (names_of c.args.symbols.now) c.args.variables.now c.args.text.now c.args.at) (as_read (read_pattern c.read_pattern.new.symbols) c.read_pattern.result)) (sym c.in-Standmath.is) c.read_pattern.ensures.answer

pub returns-in-LispM-clause-answer : goal.returns-in-LispM-clause-answer
returns-in-LispM-clause-answer c = subst (λ (syntax : Syntax). AnswersRight (IsPatternAt (notation_of syntax) (names_of c.args.symbols.now) c.args.variables.now c.args.text.now c.args.at) (as_read (read_pattern c.read_pattern-in-LispM.new.symbols) c.read_pattern-in-LispM.result)) (sym c.in-LispM.is) c.read_pattern-in-LispM.ensures.answer
