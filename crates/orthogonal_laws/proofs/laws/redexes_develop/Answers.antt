use Rattle.orthogonal_laws.proofs.Determined.{development_determined}
use Rattle.orthogonal_laws.proofs.Marking as laws
use Rattle.orthogonal_laws.proofs.laws.redexes_develop.Goals as goal

pub returns : goal.returns
returns g c = record {
  one = λ system lawful t u v m n d e same. development_determined system lawful.well_formed lawful.orthogonal t u v m n d e same;
  found = λ system lawful. laws.redexes_develop system lawful.well_formed lawful.orthogonal;
}
