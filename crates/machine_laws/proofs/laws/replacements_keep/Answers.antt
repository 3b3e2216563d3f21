use Rattle.machine_laws.proofs.KeepingArities as laws
use Rattle.machine_laws.proofs.laws.replacements_keep.Goals as goal

pub returns : goal.returns
returns g c = λ system o arity r. laws.replacements_keep system arity o r
