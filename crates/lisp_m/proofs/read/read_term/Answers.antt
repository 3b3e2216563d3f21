use Rattle.lisp_m.specs.Refusing.{IsTermAt}
use Rattle.symbol_table.specs.Table.{names_of}
use Rattle.written_terms.proofs.Answering.{one_answer_as}
use Rattle.lisp_m.proofs.OneReading.{one_term_at}
use Rattle.lisp_m.proofs.read.read_term.Goals as goal

pub returns-clause-only : goal.returns-clause-only
returns-clause-only c = λ other is. one_answer_as (IsTermAt (names_of c.args.symbols.now) c.args.text.now c.args.at) (one_term_at (names_of c.args.symbols.now) c.has_one_number_each.ensures.distinct.names c.args.text.now c.args.at) _ other c.term_at.ensures.answer is
