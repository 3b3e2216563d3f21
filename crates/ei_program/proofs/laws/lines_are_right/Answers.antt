use Rattle.ei_program.proofs.OneLine.{one_line}
use Rattle.ei_program.proofs.Headline.{prints_form, large_budget_answers}
use Rattle.ei_program.proofs.laws.lines_are_right.Goals as goal

pub returns-clause-one : goal.returns-clause-one
returns-clause-one c = one_line

pub returns-clause-answered : goal.returns-clause-answered
returns-clause-answered c = large_budget_answers

pub returns-clause-printed : goal.returns-clause-printed
returns-clause-printed c = prints_form
