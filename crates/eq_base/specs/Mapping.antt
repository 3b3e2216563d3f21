-- Patterns and rules with other heads.
use Rattle.eq_base.specs.Tree.{Tree, map_heads}
use Rattle.eq_base.specs.Pattern.{PatternCell, fixed, variable, restricted}
use Rattle.eq_base.specs.Rewriting.{RightSide, pattern, operation, Rule}

module _ {H G : Type 0} (f : H → G) where
  -- the cell with another head
  abbrev pub map_cell : PatternCell H → PatternCell G
  map_cell (fixed h) = fixed (f h)
  map_cell (variable x) = variable x
  map_cell (restricted x class) = restricted x class

  -- the pattern with other heads
  abbrev pub map_pattern : Tree (PatternCell H) → Tree (PatternCell G)
  map_pattern p = map_heads map_cell p

  -- the right side with other heads
  abbrev pub map_right : RightSide H → RightSide G
  map_right (pattern p) = pattern (map_pattern p)
  map_right (operation op) = operation op

  -- the rule with other heads
  abbrev pub map_rule : Rule H → Rule G
  map_rule rule = record { left = map_pattern rule.left; right = map_right rule.right }
