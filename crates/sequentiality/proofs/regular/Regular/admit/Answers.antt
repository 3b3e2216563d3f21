use Rattle.std.proofs.Common.{arith}
use Rattle.sequentiality.proofs.regular.Regular.admit.Goals as goal

pub invariant_of-result : goal.invariant_of-result
invariant_of-result c = record { well_formed = c.requires; no_violation = λ b h. let listed = c.in-Ok.ensures.all b h in absurd (omega (arith, listed.1)) }

pub returns-clause-regular : goal.returns-clause-regular
returns-clause-regular c = record { well_formed = c.requires; no_violation = λ b h. let listed = c.in-Ok.ensures.all b h in absurd (omega (arith, listed.1)) }
