use Rattle.machine_laws.proofs.Normalising as laws
use Rattle.machine_laws.proofs.laws.next_is_below.Goals as goal

pub returns : goal.returns
returns g c = record {
  next = λ system lawful. laws.next_below system lawful.well_formed lawful.orthogonal;
  normal = λ system lawful. laws.normal_node system lawful.well_formed lawful.orthogonal;
}
