use Rattle.machine_laws.proofs.Valueless as laws
use Rattle.machine_laws.proofs.laws.no_value_settles.Goals as goal

pub returns : goal.returns
returns g c = λ system lawful arity k frames items next h args e height a comes is done found none. laws.no_value_settles system lawful.well_formed lawful.orthogonal arity k frames items h args comes a e height found none next is done
