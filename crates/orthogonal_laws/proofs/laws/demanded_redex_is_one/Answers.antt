use Rattle.orthogonal_laws.proofs.Deciding as laws
use Rattle.orthogonal_laws.proofs.laws.demanded_redex_is_one.Goals as goal

pub returns : goal.returns
returns g c = record {
  found = λ system lawful. laws.demanded_redex_or_none system lawful.well_formed lawful.orthogonal;
  apart = λ system lawful. laws.demanded_redex_not_none system lawful.well_formed lawful.orthogonal;
  one = λ system lawful. laws.one_demanded_redex system lawful.well_formed lawful.orthogonal;
}
