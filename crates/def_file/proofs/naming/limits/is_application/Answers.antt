use Rattle.std.proofs.Common.{◌<◌, arith}
use Rattle.eq_base.specs.Tree.{Tree, node, size}
use Rattle.def_file.proofs.naming.limits.is_application.Goals as goal

has_root : {A : Type 0} (t : Tree A) → 0 < size t
has_root (node a args) = omega arith

pub cell-requires : goal.cell-requires
cell-requires c = has_root c.args.pattern.now
