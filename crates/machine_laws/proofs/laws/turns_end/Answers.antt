use Rattle.machine_laws.proofs.Working as laws
use Rattle.machine_laws.proofs.laws.turns_end.Goals as goal

pub returns : goal.returns
returns g c = λ system p q turn. laws.turn_works system turn
