use Rattle.std.proofs.Common.{ap, codes}
use Rattle.command_line.specs.Parts.{name_in}
use Rattle.command_line.specs.Given.{setting_name, part_of}
use Rattle.command_line.proofs.Giving.{refused}
use Rattle.command_line.proofs.given.Given.with.Goals as goal

pub returns-in-Check-clause-none : goal.returns-in-Check-clause-none
returns-in-Check-clause-none c = refused c.args.part (codes "check") c.args.self c.with_check.result (ap (λ part. name_in (part_of part)) c.in-Check.is) c.with_check.ensures.none

pub returns-in-Set-clause-none : goal.returns-in-Set-clause-none
returns-in-Set-clause-none c = refused c.args.part (setting_name c.in-Set.named) c.args.self c.with_value.result (ap (λ part. name_in (part_of part)) c.in-Set.is) c.with_value.ensures.none
