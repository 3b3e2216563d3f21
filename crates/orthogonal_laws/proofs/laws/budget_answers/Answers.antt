use Rattle.orthogonal_laws.proofs.RunLaws as laws
use Rattle.orthogonal_laws.proofs.laws.budget_answers.Goals as goal

pub returns : goal.returns
returns g c = record {
  answered = λ system lawful. laws.answer system lawful.well_formed lawful.orthogonal;
  spent_right = λ system lawful. laws.spent_right system lawful.well_formed lawful.orthogonal;
}
