use Rattle.std.proofs.Common.{◌∙◌, ap, sym, subst, Some}
use Rattle.def_file.specs.Errors.{IfRefused}
use Rattle.ei_program.specs.Definitions.{RefusesFile}
use Rattle.ei_program.proofs.Loadings.{admit_loaded, admit_ready}
use Rattle.ei_program.proofs.loading.load.Goals as goal

pub returns-in-Ok-clause-loaded : goal.returns-in-Ok-clause-loaded
returns-in-Ok-clause-loaded g c = λ named known.
    admit_loaded c.args.syntax c.deref.result.now c.in-Ok.equations (named c.args.name.now) c.admit.result (c.in_ok-bytes.ensures.taken named known ∙ ap (λ bytes. Some bytes) (sym c.deref.ensures.value)) c.in-Ok.ensures.ok c.admit.ensures.admitted

pub returns-in-Ok-clause-ready : goal.returns-in-Ok-clause-ready
returns-in-Ok-clause-ready g c = admit_ready c.args.syntax c.deref.result.now c.in-Ok.equations c.admit.result c.admit.ensures.admitted

pub returns-in-Err-Refused-clause-loaded : goal.returns-in-Err-Refused-clause-loaded
returns-in-Err-Refused-clause-loaded g c = λ named known.
    (c.in_ok-bytes.bytes.items, c.in_ok-bytes.ensures.taken named known, subst (RefusesFile c.args.syntax c.in_ok-bytes.bytes.items) (sym c.in-Err-Refused.fault-is) (subst (λ text. RefusesFile c.args.syntax text c.in-Err-Refused.fault) c.deref.ensures.value (subst (IfRefused (RefusesFile c.args.syntax c.deref.result.now)) c.in-Err-Refused.field-0-is c.in-Err-Refused.ensures.refused)))
