use Rattle.term_input.proofs.TermReaders.{term_reader}
use Rattle.term_input.proofs.laws.terms_are_read.Goals as goal

pub returns : goal.returns
returns c = λ syntax names distinct. term_reader syntax names distinct
