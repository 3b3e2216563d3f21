use Rattle.orthogonal_laws.proofs.RunLaws as laws
use Rattle.orthogonal_laws.proofs.laws.run_after_development.Goals as goal

pub returns : goal.returns
returns g c = record {
  developed = λ system lawful. laws.run_after_development system lawful.well_formed lawful.orthogonal;
  shared = λ system lawful. laws.run_after_shared system lawful.well_formed lawful.orthogonal;
}
