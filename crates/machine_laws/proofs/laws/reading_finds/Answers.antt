use Rattle.machine_laws.proofs.Coming as laws
use Rattle.machine_laws.proofs.laws.reading_finds.Goals as goal

pub returns : goal.returns
returns g c = λ system lawful arity k frames items t a comes r. laws.found system lawful.well_formed lawful.orthogonal arity k frames items t comes a r
