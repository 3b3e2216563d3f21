use Rattle.machine_laws.proofs.Coming as laws
use Rattle.machine_laws.proofs.laws.passed_is_settled.Goals as goal

pub returns : goal.returns
returns g c = λ system lawful arity k frames items inner next h args a comes. laws.left_behind system lawful.well_formed lawful.orthogonal arity k frames items inner next h args comes a
