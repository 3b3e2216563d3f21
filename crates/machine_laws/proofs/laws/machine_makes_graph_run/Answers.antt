use Rattle.machine_laws.proofs.MachineRuns as laws
use Rattle.machine_laws.proofs.KeepingArities as keeping
use Rattle.machine_laws.proofs.laws.machine_makes_graph_run.Goals as goal

pub returns : goal.returns
returns g c = record {
  run = λ system lawful arity k r root. laws.is_graph_run system lawful.well_formed lawful.orthogonal arity k (keeping.replacements_keep system arity lawful.orthogonal r) root;
  normal = λ system lawful arity k r root. laws.ends_normal system lawful.well_formed lawful.orthogonal arity k (keeping.replacements_keep system arity lawful.orthogonal r) root;
}
