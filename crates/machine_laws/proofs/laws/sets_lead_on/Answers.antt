use Rattle.machine_laws.proofs.NextSets as laws
use Rattle.machine_laws.proofs.laws.sets_lead_on.Goals as goal

pub returns : goal.returns
returns g c = record {
  read = λ system w items h. laws.read_set system w items h;
  skip = λ system w items. laws.skip_set system w items;
  wants = λ system w items. laws.wanted system w items;
}
