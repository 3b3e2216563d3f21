use Rattle.machine_laws.proofs.ReadArities as laws
use Rattle.machine_laws.proofs.laws.read_equations_keep.Goals as goal

pub returns : goal.returns
returns c = λ table rules regular rights. (laws.read_arity table rules regular, laws.fixed_arities table rules regular, laws.rights_keep table rules regular rights, laws.live_arity table rules regular)
