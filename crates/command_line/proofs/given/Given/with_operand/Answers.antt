use Rattle.command_line.proofs.Giving.{operand_given}
use Rattle.command_line.proofs.given.Given.with_operand.Goals as goal

pub returns-clause-some : goal.returns-clause-some
returns-clause-some c = λ parts are. operand_given parts c.args.self c.args.word.now c.in_ok-given.field-0 c.in_ok-given.ensures.some are
