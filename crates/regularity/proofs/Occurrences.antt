-- Variables by the cells that are read.
use Rattle.std.proofs.Common.{◌≡◌, refl}
use Rattle.eq_base.specs.Tree.{Tree, node, head_of}
use Rattle.eq_base.specs.Pattern.{PatternCell, fixed, variable, restricted}
use Rattle.eq_base.specs.Cells.{root_cell, variable_in}
use Rattle.eq_base.specs.declared.head.Head.{Head}
use Rattle.regularity.specs.Occurrences.{variable_of}

-- the variable in the read cell at the root is that of the pattern's own cell
pub variable_at_root : (p : Tree (PatternCell Head)) → variable_in (root_cell p) ≡ variable_of (head_of p)
variable_at_root (node (fixed h) ps) = refl
variable_at_root (node (variable x) ps) = refl
variable_at_root (node (restricted x class) ps) = refl
