use Rattle.orthogonal_laws.proofs.NextLaws as laws
use Rattle.orthogonal_laws.proofs.laws.next_is_kept.Goals as goal

pub returns : goal.returns
returns g c = λ system lawful. laws.next_is_kept system lawful.well_formed lawful.orthogonal
