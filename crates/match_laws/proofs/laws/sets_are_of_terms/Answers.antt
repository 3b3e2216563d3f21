use Rattle.match_laws.proofs.SetLaws as laws
use Rattle.match_laws.proofs.laws.sets_are_of_terms.Goals as goal

pub returns : goal.returns
returns g c = record {
  set = λ system lawful arity a t k q items r. laws.set_of_term system lawful.well_formed lawful.orthogonal arity a t k q items r;
  reachable = λ system t q items r. laws.reached_reachable system t q items r;
}
