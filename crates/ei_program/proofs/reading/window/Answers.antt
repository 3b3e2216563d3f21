use Rattle.std.proofs.Common.{◌^◌, take, ◌∙◌, ap}
use Rattle.ei_program.proofs.Lengths.{front_min}
use Rattle.ei_program.proofs.reading.window.Goals as goal

pub returns : goal.returns
returns c =
    let most = 2 ^ 24 in
    front_min c.readable-readable.result.now c.min.result most c.min.ensures ∙ ap (take most) c.readable-readable.ensures
