use Rattle.orthogonal_laws.proofs.NextLaws as laws
use Rattle.orthogonal_laws.proofs.laws.part_without_demand.Goals as goal

pub returns : goal.returns
returns g c = λ system lawful. laws.part_without_demand system lawful.well_formed lawful.orthogonal
