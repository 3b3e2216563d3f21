use Rattle.graph_laws.proofs.Renaming.{ends-from}
use Rattle.graph_laws.proofs.Shortest as laws
use Rattle.graph_laws.proofs.laws.no_list_is_shorter.Goals as goal

pub returns : goal.returns
returns g c = record {
  found = λ system lawful constant trees others root ns t v shared at l stands normal. laws.found_by_list system lawful.well_formed lawful.orthogonal constant root l t shared at v stands normal;
  shortest = λ system lawful constant trees after others root n ns t u v shared at e l stands normal. laws.none_shorter system lawful.well_formed lawful.orthogonal constant root l t shared at u stands normal n (ends-from system root trees after n v e);
}
