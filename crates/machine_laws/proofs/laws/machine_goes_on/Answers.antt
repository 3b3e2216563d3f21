use Rattle.machine_laws.proofs.Going as laws
use Rattle.machine_laws.proofs.laws.machine_goes_on.Goals as goal

pub returns : goal.returns
returns g c = λ system lawful. laws.goes_on system lawful.well_formed lawful.orthogonal
