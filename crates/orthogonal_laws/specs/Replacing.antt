-- Words of private functions alone: a term after a root step at a node.
use Rattle.std.specs.Prelude.{◌≡◌, ℕ, List, ◌++◌, Contains}
use Rattle.std.specs.List.{AllByRecursion}
use Rattle.eq_base.specs.Tree.{Tree, cells}
use Rattle.eq_base.specs.Pattern.{PatternCell, variables}
use Rattle.eq_base.specs.declared.head.Head.{Head}

-- there is room for these cells after those: together they begin the cells of some term
pub record HasRoom (before next : List (Head × ℕ)) : Type 0 where
  pub whole : Tree Head
  pub after : List (Head × ℕ)
  pub is : cells whole ≡ before ++ (next ++ after)

-- the pattern is over these variables: it has no others
abbrev pub IsOver : List ℕ → Tree (PatternCell Head) → Type 0
IsOver xs p = AllByRecursion (λ x. Contains xs x) (variables p)
