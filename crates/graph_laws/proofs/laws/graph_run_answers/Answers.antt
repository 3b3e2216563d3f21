use Rattle.std.proofs.Common.{arith}
use Rattle.graph_laws.proofs.GraphRuns as laws
use Rattle.graph_laws.proofs.Existence.{run_ends}
use Rattle.graph_laws.proofs.laws.graph_run_answers.Goals as goal

pub returns : goal.returns
returns g c = record {
  found = λ system lawful constant trees root m t v shared e l. run_ends system lawful.well_formed lawful.orthogonal constant m trees root t shared e v m (omega arith) l;
  normal = λ system lawful trees after root n t v shared e x. laws.end_is_normal_form system lawful.well_formed lawful.orthogonal trees root t shared e n after v x;
  spent = λ system lawful trees after root n t u shared e x. laws.leaves_redex system lawful.well_formed lawful.orthogonal trees root t shared e n after u x;
}
