use Rattle.std.proofs.Common.{sym}
use Rattle.ei_program.specs.Definitions.{definitions_of}
use Rattle.ei_program.proofs.ChosenTerms.{chosen, chosen_begins, went_well}
use Rattle.ei_program.proofs.answer.answer_file.Goals as goal

pub returns-clause-left : goal.returns-clause-left
returns-clause-left g c = λ named known.
    let rest = g.F.Files.rest c.choose.new.self in
    let begins = chosen_begins (g.F.Files.named c.args.files.now) named c.args.name.now rest known (went_well c.choose.result (sym c.if-is_err.ensures.value) c.choose.ensures.begins) in
    chosen c.args.settings.now (definitions_of c.args.ready.now) (named c.args.name.now) rest (g.F.Files.rest c.answer_chosen.new.files)
    (g.O.Sink.taken c.args.output.now) (g.O.Sink.taken c.answer_chosen.new.output) c.answer_chosen.result begins c.answer_chosen.ensures.left
