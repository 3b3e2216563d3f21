use Rattle.std.proofs.Common.{inr}
use Rattle.ei_program.proofs.telling.tell.Goals as goal

pub returns-in-Err-clause-told : goal.returns-in-Err-clause-told
returns-in-Err-clause-told g c = inr c.write_message-in-Err.ensures.written
