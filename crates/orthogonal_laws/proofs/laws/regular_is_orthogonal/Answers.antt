use Rattle.orthogonal_laws.proofs.RegularLists as laws
use Rattle.orthogonal_laws.proofs.laws.regular_is_orthogonal.Goals as goal

pub returns : goal.returns
returns c = record {
  constants = λ value_of rules regular. laws.reads_constants value_of rules regular;
  lawful = λ value_of rules regular.
      record { well_formed = laws.regular_well_formed value_of rules regular; orthogonal = laws.regular_orthogonal value_of rules regular };
}
