use Rattle.term_lex.specs.Lexemes.{IsAnswer}
use Rattle.term_lex.proofs.Readings.{one_answer}
use Rattle.standmath.specs.Terms.{IsSomeTerm}
use Rattle.written_terms.proofs.Answering.{one_answer_as}
use Rattle.standmath.proofs.scan.skip_term.Goals as goal

pub returns-clause-only : goal.returns-clause-only
returns-clause-only c = λ other is. one_answer_as (IsAnswer IsSomeTerm c.args.text.now c.args.at) (one_answer IsSomeTerm c.args.text.now c.args.at) _ other c.skip.ensures is
