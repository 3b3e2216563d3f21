use Rattle.machine_laws.proofs.Going as laws
use Rattle.machine_laws.proofs.laws.found_is_next_node.Goals as goal

pub returns : goal.returns
returns g c = λ system lawful. laws.next_node system lawful.well_formed lawful.orthogonal
