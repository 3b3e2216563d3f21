use Rattle.orthogonal_laws.proofs.RunLaws as laws
use Rattle.orthogonal_laws.proofs.laws.run_before_development.Goals as goal

pub returns : goal.returns
returns g c = λ system lawful. laws.run_before_development system lawful.well_formed lawful.orthogonal
