use Rattle.match_laws.proofs.SetLaws as laws
use Rattle.match_laws.proofs.laws.regular_has_arities.Goals as goal

pub returns : goal.returns
returns c = record {
  lefts = λ value_of equations. laws.same_lefts value_of equations;
  arities = λ value_of equations regular. laws.regular_arities value_of equations regular;
}
