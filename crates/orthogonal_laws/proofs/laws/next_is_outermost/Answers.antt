use Rattle.orthogonal_laws.proofs.Deciding as deciding
use Rattle.orthogonal_laws.proofs.NextLaws as laws
use Rattle.orthogonal_laws.proofs.laws.next_is_outermost.Goals as goal

pub returns : goal.returns
returns g c = record {
  outermost = λ system lawful. laws.next_outer system lawful.well_formed lawful.orthogonal;
  found = λ system lawful. laws.normal_or_next_redex system lawful.well_formed lawful.orthogonal;
  redex_left = λ system lawful. laws.next_not_normal system lawful.well_formed lawful.orthogonal;
  none = λ system lawful t. (deciding.no_next_redex-normal system lawful.well_formed lawful.orthogonal t, deciding.normal-no_next_redex system lawful.well_formed lawful.orthogonal t);
  one = λ system lawful. laws.next_one system lawful.well_formed lawful.orthogonal;
}
