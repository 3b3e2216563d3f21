use Rattle.orthogonal_laws.proofs.Addition as laws
use Rattle.orthogonal_laws.proofs.laws.addition_is_orthogonal.Goals as goal

pub returns : goal.returns
returns c = record { well_formed = laws.addition_well_formed; orthogonal = laws.addition_orthogonal }
