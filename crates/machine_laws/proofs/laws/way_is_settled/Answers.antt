use Rattle.machine_laws.proofs.Coming as laws
use Rattle.machine_laws.proofs.laws.way_is_settled.Goals as goal

pub returns : goal.returns
returns g c = λ system lawful arity k frames items inner next h before behind a comes. laws.over system lawful.well_formed lawful.orthogonal arity k frames items inner next h before behind comes a
