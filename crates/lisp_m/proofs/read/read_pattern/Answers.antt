use Rattle.lisp_m.specs.Refusing.{IsPatternAt}
use Rattle.symbol_table.specs.Table.{names_of}
use Rattle.written_terms.proofs.Answering.{one_answer_as}
use Rattle.lisp_m.proofs.OneReading.{one_pattern_at}
use Rattle.lisp_m.proofs.read.read_pattern.Goals as goal

pub returns-clause-only : goal.returns-clause-only
returns-clause-only c = λ other is. one_answer_as (IsPatternAt (names_of c.args.symbols.now) c.args.variables.now c.args.text.now c.args.at) (one_pattern_at (names_of c.args.symbols.now) c.has_one_number_each.ensures.distinct.names c.args.text.now c.args.at c.args.variables.now c.has_one_number_each-2.ensures) _ other c.pattern_at.ensures.answer is
