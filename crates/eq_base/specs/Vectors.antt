-- Words of private functions and fields alone: what the vectors of terms and patterns keep.
use Rattle.std.specs.Prelude.{◌≡◌, ℕ, List}
use Rattle.std.specs.List.{AllByRecursion}
use Rattle.eq_base.specs.Tree.{Tree, map_heads}
use Rattle.eq_base.specs.Pattern.{PatternCell}
use Rattle.eq_base.specs.Cells.{arity_in, TakesArguments, CellTakesArguments}
use Rattle.eq_base.specs.Kinds.{cell_of, pattern_cell}
use Rattle.eq_base.specs.Preorder.{labels, tree_of, IsPreorder}
use Rattle.eq_base.specs.declared.head.Head.{Head}
use Rattle.eq_base.specs.declared.head.Head.TheVariants.{Symbol}
use Rattle.eq_base.specs.declared.kind.Kind.{Kind}
use Rattle.eq_base.specs.declared.kind.Kind.TheVariants.{Var}
use Rattle.eq_base.specs.declared.preorder.Node.{Node}

-- ---- terms

-- the term of a vector
abbrev pub term_of : List (Node Head) → Tree Head
term_of nodes = tree_of (Symbol 0) nodes

-- each head takes the arguments that it has
abbrev pub TakeArguments : List (Head × ℕ) → Type 0
TakeArguments ls = AllByRecursion (λ l. TakesArguments l.0 l.1) ls

-- the vector holds a whole term
pub record IsTermVector (nodes : List (Node Head)) : Type 0 where
  pub preorder : IsPreorder (term_of nodes) nodes
  pub arguments : TakeArguments (labels nodes)

-- ---- patterns

-- the pattern of a vector
abbrev pub pattern_of : List (Node Kind) → Tree (PatternCell Head)
pattern_of nodes = map_heads pattern_cell (tree_of (Var 0) nodes)

-- the label is that of a cell with its own number of arguments, which its head takes
pub record IsProper (label : Kind × ℕ) : Type 0 where
  pub arity : arity_in (cell_of label) ≡ label.1
  pub arguments : CellTakesArguments (cell_of label)

-- each label is proper
abbrev pub AreProper : List (Kind × ℕ) → Type 0
AreProper ls = AllByRecursion IsProper ls

-- the vector holds a whole pattern
pub record IsPatternVector (nodes : List (Node Kind)) : Type 0 where
  pub preorder : IsPreorder (tree_of (Var 0) nodes) nodes
  pub proper : AreProper (labels nodes)
