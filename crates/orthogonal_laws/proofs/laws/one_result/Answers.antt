use Rattle.orthogonal_laws.proofs.NextLaws as laws
use Rattle.orthogonal_laws.proofs.laws.one_result.Goals as goal

pub returns : goal.returns
returns g c = λ system lawful. laws.one_result system lawful.well_formed lawful.orthogonal
