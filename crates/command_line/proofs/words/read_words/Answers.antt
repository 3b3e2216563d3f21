use Rattle.std.proofs.Common.{map, string_bytes}
use Rattle.command_line.proofs.Asking.{no_command_line}
use Rattle.command_line.proofs.words.read_words.Goals as goal

pub returns-clause-none : goal.returns-clause-none
returns-clause-none c =
    let given = c.in_ok-given.ensures.given in
    no_command_line c.asked_by.result (map string_bytes c.args.words.now) given.0 c.in_ok-given.given given.1 given.2 c.asked_by.ensures.none
