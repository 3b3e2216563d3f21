use Rattle.term_input.proofs.Streams as streams
use Rattle.term_input.proofs.laws.streams_hold_the_rest.Goals as goal

pub returns-clause-begun : goal.returns-clause-begun
returns-clause-begun c = λ left limit. streams.nothing_taken left limit

pub returns-clause-more : goal.returns-clause-more
returns-clause-more c = λ before mid left taken old new is t. (t.taken, streams.more_taken before mid left taken old new is t)

pub returns-clause-given_up : goal.returns-clause-given_up
returns-clause-given_up c = λ before left taken held place is from to. streams.given_up before left taken held place is from to
