use Rattle.graph_laws.proofs.Squares as laws
use Rattle.graph_laws.proofs.laws.replacements_cross.Goals as goal

pub returns : goal.returns
returns g c = λ system lawful trees between others n m shared other x y. let s = laws.square system lawful.well_formed lawful.orthogonal trees between others n m shared other x y in (s.after, s.after', s.then, s.then', s.same_rule, s.same_rule', s.alike)
