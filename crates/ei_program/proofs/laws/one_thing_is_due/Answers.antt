use Rattle.ei_program.proofs.OneDue.{due_one}
use Rattle.ei_program.proofs.Begun.{begun_is_due}
use Rattle.ei_program.proofs.laws.one_thing_is_due.Goals as goal

pub returns-clause-one : goal.returns-clause-one
returns-clause-one c = due_one

pub returns-clause-begun : goal.returns-clause-begun
returns-clause-begun c = begun_is_due
