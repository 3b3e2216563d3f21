use Rattle.graph_laws.proofs.PartsStay as laws
use Rattle.graph_laws.proofs.laws.part_stays.Goals as goal

pub returns : goal.returns
returns g c = λ system lawful rule listed q below tested t u n is d. laws.part_stays system lawful.well_formed lawful.orthogonal rule listed q below tested t u n is d
