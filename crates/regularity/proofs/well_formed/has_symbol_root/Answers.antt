use Rattle.eq_base.proofs.Numbers.{has_node}
use Rattle.regularity.proofs.well_formed.has_symbol_root.Goals as goal

pub cell-requires : goal.cell-requires
cell-requires c = has_node c.args.left.now
