use Rattle.ei_program.specs.Definitions.{definitions_of}
use Rattle.ei_program.proofs.Exact.{terms_come_to}
use Rattle.ei_program.proofs.top_call.answer_terms.Goals as goal

pub returns-clause-leaves : goal.returns-clause-leaves
returns-clause-leaves g c = λ bytes known.
    record { outcome = c.answer_input-outcome.result; leaves = c.answer_input-outcome.ensures.left bytes known; told = c.tell.ensures.told }

pub returns-clause-output_steady : goal.returns-clause-output_steady
returns-clause-output_steady g c = λ other. c.answer_input-outcome.ensures.output_steady (λ failed. other (c.tell.ensures.output failed))

pub returns-clause-exact : goal.returns-clause-exact
returns-clause-exact g c = λ bytes known no_input no_output no_error.
    let r = c.answer_input-outcome in
    let told = c.tell.ensures in
    terms_come_to c.args.settings.now (definitions_of c.args.ready.now) bytes
    (g.I.Source.left r.new.input) (g.O.Sink.taken c.args.output.now) (g.O.Sink.taken r.new.output)
    (g.E.Sink.taken c.args.errors.now) (g.E.Sink.taken c.tell.new.errors) c.tell.result
    r.result (r.ensures.left bytes known) (λ e. no_input (r.ensures.read e)) (λ e. no_output (r.ensures.write e)) told.told (λ other e. no_error (told.write e other))
