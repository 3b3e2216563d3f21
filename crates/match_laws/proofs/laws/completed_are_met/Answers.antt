use Rattle.match_laws.proofs.SetLaws as laws
use Rattle.match_laws.proofs.laws.completed_are_met.Goals as goal

pub returns : goal.returns
returns g c = λ system w arity a t k q items is h us s e b. laws.completed system w arity a t k q items is h us s e b
