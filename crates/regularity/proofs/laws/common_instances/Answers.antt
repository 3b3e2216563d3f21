use Rattle.regularity.proofs.Shared.{common_is_shared}
use Rattle.regularity.proofs.laws.common_instances.Goals as goal

pub returns : goal.returns
returns c = common_is_shared
