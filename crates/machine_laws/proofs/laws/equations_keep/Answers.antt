use Rattle.machine_laws.proofs.EquationArities as laws
use Rattle.machine_laws.proofs.laws.equations_keep.Goals as goal

pub returns : goal.returns
returns c = λ value_of rules regular arities classes. laws.equations_keep value_of rules regular arities classes
