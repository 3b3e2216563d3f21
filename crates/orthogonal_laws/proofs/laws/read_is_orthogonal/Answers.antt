use Rattle.orthogonal_laws.proofs.ReadSystems.{read_lawful}
use Rattle.orthogonal_laws.proofs.laws.read_is_orthogonal.Goals as goal

pub returns : goal.returns
returns c = λ table rules regular. read_lawful table rules regular
