use Rattle.def_file.specs.AsRead.{answer_read}
use Rattle.def_file.proofs.Lawful.{lawful_of}
use Rattle.def_file.proofs.OneAnswer.{only_answer}
use Rattle.def_file.proofs.phases.read_definitions.Goals as goal

pub returns-clause-only : goal.returns-clause-only
returns-clause-only c = λ other right.
    only_answer (lawful_of c.args.syntax) c.args.text.now other (answer_read c.definitions_in.result) right
    c.definitions_in.ensures.answer
