use Rattle.symbol_table.specs.Reading.{read_system}
use Rattle.orthogonal_laws.proofs.ReadSystems.{read_lawful}
use Rattle.orthogonal_laws.proofs.RunLaws as laws
use Rattle.orthogonal_laws.proofs.laws.only_normal_form.Goals as goal

pub returns : goal.returns
returns c = record {
  found = λ table rules regular. let lawful = read_lawful table rules regular in laws.run_found (read_system table rules) lawful.well_formed lawful.orthogonal;
  one_run = λ table rules regular. let lawful = read_lawful table rules regular in laws.one_run (read_system table rules) lawful.well_formed lawful.orthogonal;
  one_end = λ table rules regular. let lawful = read_lawful table rules regular in laws.one_end (read_system table rules) lawful.well_formed lawful.orthogonal;
}
