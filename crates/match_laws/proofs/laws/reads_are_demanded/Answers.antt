use Rattle.match_laws.proofs.Demanding.{read_wanted}
use Rattle.match_laws.proofs.laws.reads_are_demanded.Goals as goal

pub returns : goal.returns
returns g c = λ system t q items is. read_wanted system t q items is
