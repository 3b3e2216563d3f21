use Rattle.graph_laws.proofs.GraphRuns as laws
use Rattle.graph_laws.proofs.laws.shared_runs.Goals as goal

pub returns : goal.returns
returns g c = record {
  derivable = λ system lawful t u n r. laws.shared_run-derives system lawful.well_formed lawful.orthogonal r;
  shorter = λ system lawful t u v n m r l. laws.shared_run-shorter system lawful.well_formed lawful.orthogonal r v m l;
  longer = λ system lawful t u v n m r left l. laws.shared_run-longer system lawful.well_formed lawful.orthogonal r left v m l;
}
