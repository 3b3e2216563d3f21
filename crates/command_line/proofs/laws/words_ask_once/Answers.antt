use Rattle.command_line.proofs.OneTask.{one_asked}
use Rattle.command_line.proofs.laws.words_ask_once.Goals as goal

pub returns : goal.returns
returns c = one_asked
