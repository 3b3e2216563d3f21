use Rattle.std.proofs.Common.{⊎_elim, List, Some, subst, sym, map, string_bytes, String}
use Rattle.std.specs.declared.alloc.Global.{Global}
use Rattle.command_line.specs.Asked.{Asks, IsCommandLine}
use Rattle.ei_program.specs.Run.{Given, IsDue, Leaves, LeavesOn}
use Rattle.ei_program.specs.Telling.{DoesDue}
use Rattle.ei_program.proofs.Exact.{comes_to}
use Rattle.ei_program.proofs.WrittenSteps.{written_steps}
use Rattle.ei_program.proofs.top_call.ei.Goals as goal

pub returns-clause-leaves : goal.returns-clause-leaves
returns-clause-leaves g c = λ named bytes known is.
    let r = c.run-outcome in
    let W = λ (words : List (String Global)). LeavesOn (Leaves (record { words = map string_bytes words; named = named; input = bytes }) (g.F.Files.rest r.new.files) (g.I.Source.left r.new.input) r.result)
    (g.O.Sink.taken c.args.output.now) (g.O.Sink.taken r.new.output) in
    record { outcome = r.result; leaves = subst W c.deref.ensures.value (r.ensures.left named bytes known is); told = c.tell.ensures.told }

pub returns-clause-whole : goal.returns-clause-whole
returns-clause-whole g c = λ named task file terms known asks all.
    let W = λ (words : List (String Global)). Asks (map string_bytes words) task file (Some terms) in
    c.run-outcome.ensures.whole named task file terms known (subst W (sym c.deref.ensures.value) asks) (c.tell.ensures.answered all)

pub returns-clause-words : goal.returns-clause-words
returns-clause-words g c = λ e.
    let W = λ (words : List (String Global)). IsCommandLine (map string_bytes words) → ⊥ in
    subst W c.deref.ensures.value (c.run-outcome.ensures.words.0 (c.tell.ensures.words e))

pub returns-clause-output_steady : goal.returns-clause-output_steady
returns-clause-output_steady g c = λ other. c.run-outcome.ensures.output_steady (λ failed. other (c.tell.ensures.output failed))

pub returns-clause-exact : goal.returns-clause-exact
returns-clause-exact g c = λ named bytes known is no_file no_input no_output no_error.
    let r = c.run-outcome in
    let given : Given = record { words = map string_bytes c.deref.result.now; named = named; input = bytes } in
    let told = c.tell.ensures in
    let Does = λ (words : List (String Global)). DoesDue (IsDue (record { words = map string_bytes words; named = named; input = bytes })) bytes (g.I.Source.left r.new.input)
    (g.O.Sink.taken c.args.output.now) (g.O.Sink.taken r.new.output) (g.E.Sink.taken c.args.errors.now) (g.E.Sink.taken c.tell.new.errors) c.tell.result in
    subst Does c.deref.ensures.value
    (comes_to given (g.F.Files.rest r.new.files) (g.I.Source.left r.new.input) (g.O.Sink.taken c.args.output.now) (g.O.Sink.taken r.new.output)
    (g.E.Sink.taken c.args.errors.now) (g.E.Sink.taken c.tell.new.errors) c.tell.result
    r.result (r.ensures.left named bytes known is)
    (λ e. ⊎_elim no_file no_input (r.ensures.read e)) (λ e. no_output (r.ensures.write e)) told.told (λ other e. no_error (told.write e other)))

pub returns-clause-steps : goal.returns-clause-steps
returns-clause-steps g c = written_steps
