use Rattle.graph_laws.proofs.MatchedNodes as laws
use Rattle.graph_laws.proofs.laws.matched_nodes_rest.Goals as goal

pub returns : goal.returns
returns g c = λ system lawful rule listed q below tested trees after ns i t part shared e is at list. let x = laws.matched_rests system lawful.well_formed lawful.orthogonal rule listed q below tested trees after ns i t part shared e is at list in (x.tree, x.stands, x.root, x.rests)
