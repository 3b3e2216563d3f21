use Rattle.std.proofs.Common.{arith}
use Rattle.regularity.proofs.Twos.{root_done, overlaps_done, first_not_single}
use Rattle.regularity.proofs.pairs.push_overlaps.Goals as goal

pub returns-then-not-singles-first : goal.returns-then-not-singles-first
returns-then-not-singles-first c = first_not_single c.args.rules.now c.args.singles.now c.requires.singles 4 c.args.first c.args.found.now c.if-not-singles-first.true c.requires.before

pub loop-place-init : goal.loop-place-init
loop-place-init c = root_done c.args.rules.now c.args.first c.equation.result.now c.equation.ensures c.args.found.now c.requires.before

pub returns : goal.returns
returns c = overlaps_done c.args.rules.now c.args.first c.equation.result.now c.equation.ensures c.loop-place.found c.loop-place.place (omega arith) c.loop-place.invariant
