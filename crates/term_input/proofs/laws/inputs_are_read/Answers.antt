use Rattle.term_input.specs.Readers.{ReadsBy, EndedBy}
use Rattle.term_input.proofs.Inputs as inputs
use Rattle.term_input.proofs.Limits as limits
use Rattle.term_input.proofs.laws.inputs_are_read.Goals as goal

pub returns-clause-some : goal.returns-clause-some
returns-clause-some g c = λ read_one ended reader limit input. inputs.some_read (ReadsBy read_one) (EndedBy ended) reader limit input (inputs.total_by read_one ended)

pub returns-clause-one : goal.returns-clause-one
returns-clause-one g c = λ read_one ended reader limit input xs ys e f p q. inputs.one_read (ReadsBy read_one) (EndedBy ended) reader limit input 0 xs ys e f p q

pub returns-clause-front : goal.returns-clause-front
returns-clause-front g c = λ read_one ended reader limit taken rest xs ys e f p q. inputs.read_of_front (ReadsBy read_one) (EndedBy ended) reader limit taken rest xs ys e f p q

pub returns-clause-taken : goal.returns-clause-taken
returns-clause-taken g c = λ read_one ended limit input things end p. limits.read_of_taken (ReadsBy read_one) (EndedBy ended) limit input things end p
