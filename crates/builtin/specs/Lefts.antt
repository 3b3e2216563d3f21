-- The left sides of the equations of operations.
use Rattle.std.specs.Prelude.{◌≡◌, ℕ}
use Rattle.eq_base.specs.Tree.{Tree, node, empty, grow}
use Rattle.eq_base.specs.Pattern.{PatternCell, fixed, restricted}
use Rattle.eq_base.specs.Operations.{application}
use Rattle.eq_base.specs.declared.head.Head as heads
use Rattle.eq_base.specs.declared.head.Cell as cells
use Rattle.eq_base.specs.declared.head.Cell.TheVariants.{Head}
use Rattle.eq_base.specs.declared.rules.Op.{Op}

-- the pattern is the left side of the operation's equation, with some head at its root
abbrev pub IsApplication : Op → Tree (PatternCell heads.Head) → Type 0
IsApplication op p = (f : heads.Head) × (p ≡ application op f)

-- a head stands in the cell
abbrev pub IsHeadCell : cells.Cell → Type 0
IsHeadCell c = (h : heads.Head) × (n : ℕ) × (c ≡ Head h n)

-- a head over a variable in the class
abbrev pub IsOverOne : ℕ → Tree (PatternCell heads.Head) → Type 0
IsOverOne class p = (f : heads.Head) × (p ≡ node (fixed f) (grow (node (restricted 0 class) empty) empty))

-- a head over two variables in the class
abbrev pub IsOverTwo : ℕ → Tree (PatternCell heads.Head) → Type 0
IsOverTwo class p =
    (f : heads.Head)
    × (p
    ≡ node (fixed f) (grow (node (restricted 0 class) empty) (grow (node (restricted 1 class) empty) empty)))
