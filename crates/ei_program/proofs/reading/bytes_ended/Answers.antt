use Rattle.std.proofs.Common.{◌-◌, length, drop, take, sym, length-drop}
use Rattle.ei_program.proofs.Lengths.{front_whole}
use Rattle.ei_program.proofs.Newlines.{ended_by_newline}
use Rattle.ei_program.proofs.reading.bytes_ended.Goals as goal

pub returns-in-OpenString : goal.returns-in-OpenString
returns-in-OpenString c =
    let window = c.args.window.now in
    let byte = c.args.fault.byte in
    let all = front_whole (length window - byte) (drop byte window) (sym (length-drop byte window)) in
    ended_by_newline window (take (length window - byte) (drop byte window)) c.args.fault all c.in-OpenString.is c.contains.result c.contains.ensures.cases
