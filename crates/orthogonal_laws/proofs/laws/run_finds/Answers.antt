use Rattle.orthogonal_laws.proofs.RunLaws as laws
use Rattle.orthogonal_laws.proofs.laws.run_finds.Goals as goal

pub returns : goal.returns
returns g c = record {
  found = λ system lawful. laws.run_found system lawful.well_formed lawful.orthogonal;
  one_run = λ system lawful. laws.one_run system lawful.well_formed lawful.orthogonal;
  one_end = λ system lawful. laws.one_end system lawful.well_formed lawful.orthogonal;
}
