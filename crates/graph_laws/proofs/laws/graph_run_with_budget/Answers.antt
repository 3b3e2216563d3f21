use Rattle.graph_laws.proofs.Budgets as laws
use Rattle.graph_laws.proofs.laws.graph_run_with_budget.Goals as goal

pub returns : goal.returns
returns g c = record {
  normal = λ system lawful root budget n trees after v e within. laws.normal_answer system lawful.well_formed lawful.orthogonal root budget trees after n v e within;
  spent = λ system lawful root budget trees after u l. laws.spent_answer system lawful.well_formed lawful.orthogonal root budget trees after u l;
  grows = λ system largest most root n trees after run. laws.run_grows system largest most root trees run;
}
