use Rattle.orthogonal_laws.proofs.NextLaws as laws
use Rattle.orthogonal_laws.proofs.laws.no_demand_stays.Goals as goal

pub returns : goal.returns
returns g c = λ system lawful. laws.no_demand_stays system lawful.well_formed lawful.orthogonal
