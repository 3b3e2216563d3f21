use Rattle.regularity.specs.Violations.{IsOfOne, IsOfTwo}
use Rattle.regularity.proofs.Order.{lists_append}
use Rattle.sequentiality.specs.Violations.{IsEarlier, IsNotSequential}
use Rattle.sequentiality.proofs.Sequence.{one_before_two, earlier_before}
use Rattle.sequentiality.proofs.regular.violations.Goals as goal

pub breaks-requires-clause-earlier : goal.breaks-requires-clause-earlier
breaks-requires-clause-earlier c =
    let rules = c.args.rules.now in
    rw c.in_ok-append.ensures.ok (lists_append (IsOfOne rules) (IsOfTwo rules) c.in_ok-found.found c.in_ok-pairs.pairs c.in_ok-found.ensures c.in_ok-pairs.ensures (one_before_two rules))

pub returns : goal.returns
returns c =
    let rules = c.args.rules.now in
    let earlier = lists_append (IsOfOne rules) (IsOfTwo rules) c.in_ok-found.found c.in_ok-pairs.pairs c.in_ok-found.ensures c.in_ok-pairs.ensures (one_before_two rules) in
    rw (c.in_ok-append-2.ensures.ok, c.in_ok-append.ensures.ok) (lists_append (IsEarlier rules) (IsNotSequential rules) _ c.in_ok-last.last earlier c.in_ok-last.ensures (earlier_before rules))
