use Rattle.graph_laws.proofs.ConstantValues.{values_constant}
use Rattle.graph_laws.proofs.laws.values_are_constant.Goals as goal

pub returns : goal.returns
returns c = values_constant
