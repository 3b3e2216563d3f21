use Rattle.term_input.specs.Ending.{BytesEnded}
use Rattle.term_input.specs.TermReading.{ReadsOne}
use Rattle.term_input.proofs.Inputs as inputs
use Rattle.term_input.proofs.Limits as limits
use Rattle.term_input.proofs.TermReaders.{term_reader}
use Rattle.term_input.proofs.laws.inputs_hold_terms.Goals as goal

pub returns-clause-one : goal.returns-clause-one
returns-clause-one c = λ syntax names distinct limit input xs ys e f p q. inputs.one_read (ReadsOne syntax names) BytesEnded (term_reader syntax names distinct) limit input 0 xs ys e f p q

pub returns-clause-first : goal.returns-clause-first
returns-clause-first c = λ syntax names distinct limit input xs ys last f p q. inputs.first_front (ReadsOne syntax names) BytesEnded (term_reader syntax names distinct) limit input 0 last xs ys f p q

pub returns-clause-front : goal.returns-clause-front
returns-clause-front c = λ syntax names distinct limit taken rest xs ys e f p q. inputs.read_of_front (ReadsOne syntax names) BytesEnded (term_reader syntax names distinct) limit taken rest xs ys e f p q

pub returns-clause-taken : goal.returns-clause-taken
returns-clause-taken c = λ syntax names limit input xs end p. limits.read_of_taken (ReadsOne syntax names) BytesEnded limit input xs end p
