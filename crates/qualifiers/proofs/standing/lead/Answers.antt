use Rattle.eq_base.proofs.Lists.{all_at}
use Rattle.qualifiers.specs.Standing.{StandsFor}
use Rattle.qualifiers.proofs.Targets.{targets-set}
use Rattle.qualifiers.proofs.standing.lead.Goals as goal

pub loop-place-preserved : goal.loop-place-preserved
loop-place-preserved c = λ qs are all.
    targets-set qs c.loop-place.targets _ c.args.last (c.loop-place.invariant qs are all) (all_at (λ i. StandsFor qs i c.args.last) c.args.way.now c.loop-place.place-index 0 c.loop-place-test.true all)
