use Rattle.regularity.proofs.Parts.{part_is_shared}
use Rattle.regularity.proofs.laws.common_instances_of_parts.Goals as goal

pub returns : goal.returns
returns c = part_is_shared
