use Rattle.machine_laws.proofs.Coming as laws
use Rattle.machine_laws.proofs.laws.reading_goes_on.Goals as goal

pub returns : goal.returns
returns g c = λ system lawful arity k frames gs items t a comes. laws.comes_still system lawful.well_formed lawful.orthogonal arity k frames gs items t comes a
