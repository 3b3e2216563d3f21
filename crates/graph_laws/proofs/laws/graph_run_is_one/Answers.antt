use Rattle.graph_laws.proofs.OneRun as laws
use Rattle.graph_laws.proofs.laws.graph_run_is_one.Goals as goal

pub returns : goal.returns
returns g c = record {
  one = λ system lawful root n trees after others r r'. laws.one_graph_run system lawful.well_formed lawful.orthogonal root trees r r';
  one_end = λ system lawful root m n trees after others u v a b. laws.one_end system lawful.well_formed lawful.orthogonal root trees m n after others u v a b;
  apart = λ system lawful root n budget trees after others u v e within l. laws.ends_or_leaves system lawful.well_formed lawful.orthogonal root trees n budget after others u v e within l;
}
