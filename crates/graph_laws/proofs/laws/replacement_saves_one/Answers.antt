use Rattle.graph_laws.proofs.Shortest as laws
use Rattle.graph_laws.proofs.laws.replacement_saves_one.Goals as goal

pub returns : goal.returns
returns g c = λ system lawful constant trees between others root m k t v shared at x e. laws.found_before system lawful.well_formed lawful.orthogonal constant root trees between m t shared at x k others v e
