use Rattle.std.proofs.Common.{arith}
use Rattle.sequentiality.proofs.Sequence.{first_not_single, places_done}
use Rattle.sequentiality.proofs.order.push_breaks.Goals as goal

pub returns-then-not-singles-first : goal.returns-then-not-singles-first
returns-then-not-singles-first c = first_not_single c.args.rules.now c.args.singles.now c.requires.singles c.args.first c.args.found.now c.if-not-singles-first.true c.requires.before

pub returns : goal.returns
returns c = places_done c.args.rules.now c.args.first c.equation.result.now c.equation.ensures c.loop-place.found c.loop-place.place (omega arith) c.loop-place.invariant
