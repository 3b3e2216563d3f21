use Rattle.orthogonal_laws.proofs.RunLaws as laws
use Rattle.orthogonal_laws.proofs.laws.developments_meet.Goals as goal

pub returns : goal.returns
returns g c = λ system lawful. laws.developments_meet system lawful.well_formed lawful.orthogonal
