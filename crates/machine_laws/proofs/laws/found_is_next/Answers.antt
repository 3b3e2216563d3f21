use Rattle.machine_laws.proofs.Normalising as laws
use Rattle.machine_laws.proofs.laws.found_is_next.Goals as goal

pub returns : goal.returns
returns g c = λ system lawful. laws.next_found system lawful.well_formed lawful.orthogonal
