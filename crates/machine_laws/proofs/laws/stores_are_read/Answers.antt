use Rattle.symbol_table.specs.Reading.{read_head}
use Rattle.machine_laws.proofs.OtherHeads as laws
use Rattle.machine_laws.proofs.laws.stores_are_read.Goals as goal

pub returns : goal.returns
returns c = record {
  pattern = λ table left right n trees after x. laws.replacement-other (read_head table) left right n trees after x;
  constant = λ table h n trees after x. laws.put_constant-other (read_head table) h n trees after x;
  shared = λ table trees x. laws.shared-other (read_head table) trees x;
  terms = λ table t. laws.plain-other (read_head table) t;
}
