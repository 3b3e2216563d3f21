use Rattle.command_line.proofs.Giving.{check_stands, check_given}
use Rattle.command_line.proofs.given.Given.with_check.Goals as goal

pub returns-then-self-clause-none : goal.returns-then-self-clause-none
returns-then-self-clause-none c = λ parts are. check_stands parts c.args.self.check c.if-self.true are.check

pub returns-clause-some : goal.returns-clause-some
returns-clause-some c = λ parts are. check_given parts c.args.self c.if-self.false are
