use Rattle.std.proofs.Common.{ap}
use Rattle.command_line.specs.Given.{words_of}
use Rattle.command_line.proofs.Asking.{at_none, checks_two}
use Rattle.command_line.proofs.words.asked_by.Goals as goal

pub returns-in_err-task-clause-none : goal.returns-in_err-task-clause-none
returns-in_err-task-clause-none c = at_none c.from_residual.result _ c.from_residual.ensures (λ parts task file terms are is operands. c.in_err-task.ensures.none parts task are is)

pub returns-in-Check-clause-none : goal.returns-in-Check-clause-none
returns-in-Check-clause-none c = checks_two c.args.given c.in_ok-task.task c.in-FileAndTerms.file.now c.in-FileAndTerms.terms.now (ap words_of c.in-FileAndTerms.is) c.in-Check.is c.in_ok-task.ensures.task
