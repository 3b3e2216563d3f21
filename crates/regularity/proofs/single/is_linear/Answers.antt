use Rattle.std.proofs.Common.{arith, refl}
use Rattle.regularity.proofs.single.is_linear.Goals as goal

pub returns : goal.returns
returns c = (λ yes k r. c.loop-place.invariant k (omega (arith, r.here.there)) r, λ none. refl)
