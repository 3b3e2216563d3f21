use Rattle.graph_laws.proofs.KeepingShared.{stay_shared}
use Rattle.graph_laws.proofs.OneRun.{one_replacement}
use Rattle.graph_laws.proofs.laws.replacement_keeps_shared.Goals as goal

pub returns : goal.returns
returns g c = record {
  shared = λ system lawful. stay_shared system lawful.well_formed lawful.orthogonal;
  one = λ system o. one_replacement system o;
}
