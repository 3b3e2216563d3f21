use Rattle.std.proofs.Common.{refl}
use Rattle.graph_laws.specs.Numbered.{plain}
use Rattle.graph_laws.proofs.GraphRuns as laws
use Rattle.graph_laws.proofs.laws.graph_run_shares.Goals as goal

pub returns : goal.returns
returns g c = record {
  run = λ system lawful trees after root n t shared e r. let x = laws.graph_run-shares system lawful.well_formed lawful.orthogonal trees root t shared e r in (plain x.tree, (x.tree, x.stands, refl), x.run);
  shared = λ system lawful trees after root n t shared e r. (laws.graph_run-shares system lawful.well_formed lawful.orthogonal trees root t shared e r).shared;
}
