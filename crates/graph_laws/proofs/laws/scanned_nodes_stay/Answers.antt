use Rattle.graph_laws.proofs.ScannedNodes as laws
use Rattle.graph_laws.proofs.laws.scanned_nodes_stay.Goals as goal

pub returns : goal.returns
returns g c = record {
  other = λ system trees after n i t shared x e other. (_, laws.tree_after system trees after n shared x i t e, laws.other_kept system trees after n shared x i t e other);
  normal = λ system trees after n i t shared x e normal. laws.normal_kept system trees after n shared x i t e normal;
  no_demand = λ system lawful trees after n i t shared x e none. let k = laws.no_demand_kept system trees after n shared x lawful.well_formed lawful.orthogonal i t e none in (_, laws.tree_after system trees after n shared x i t e, k.0, k.1);
  part = λ system lawful rule listed q below tested trees after n i t shared x e is. (_, laws.tree_after system trees after n shared x i t e, laws.part_kept system trees after n shared x lawful.well_formed lawful.orthogonal rule listed q below tested i t e is);
  redex = λ system lawful trees after n i t shared x e other redex. (_, laws.tree_after system trees after n shared x i t e, laws.redex_kept system trees after n shared x lawful.well_formed lawful.orthogonal i t e other redex);
}
