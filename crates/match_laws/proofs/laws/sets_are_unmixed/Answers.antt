use Rattle.match_laws.proofs.SetLaws as laws
use Rattle.match_laws.proofs.laws.sets_are_unmixed.Goals as goal

pub returns : goal.returns
returns g c = λ system lawful arity a. laws.unmixed system lawful.well_formed lawful.orthogonal arity a
