use Rattle.orthogonal_laws.proofs.Deciding as laws
use Rattle.orthogonal_laws.proofs.laws.demand_is_decided.Goals as goal

pub returns : goal.returns
returns g c = record {
  redex = λ system lawful. laws.redex_decided system lawful.well_formed lawful.orthogonal;
  position = λ system lawful. laws.demanded_or_not system lawful.well_formed lawful.orthogonal;
}
