use Rattle.def_file.specs.Notations.{notation_of}
use Rattle.term_input.proofs.TermReaders.{reads_front}
use Rattle.term_input.proofs.laws.terms_stay.Goals as goal

pub returns : goal.returns
returns c = λ syntax names text more at t end le r. reads_front (notation_of syntax) names text more at t end le r
