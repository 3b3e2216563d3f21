-- What building a right side leaves.
use Rattle.std.specs.Prelude.{◌≡◌, ℕ, zero, suc, ◌+◌, ◌≤◌, List, ◌++◌, map, length}
use Rattle.std.specs.List.{AllByRecursion}
use Rattle.eq_base.specs.Tree.{Tree, size, nth_subtree}
use Rattle.eq_base.specs.Pattern.{PatternCell}
use Rattle.eq_base.specs.Cells.{root_cell}
use Rattle.eq_base.specs.declared.head.Head as heads
use Rattle.eq_base.specs.declared.head.Cell as cells
use Rattle.eq_base.specs.declared.head.Cell.TheVariants.{Head, Var, Class}
use Rattle.term_graph.specs.declared.content.Content.{Content}
use Rattle.term_graph.specs.Building.{root_shape, new_shapes}
use Rattle.term_graph.specs.Contents.{shape_of, HasArgumentsWithin}

-- the new nodes and their arguments came behind the others, and the root's content, which is not yet stored,
-- is this one
pub record AreBuilt (met : ℕ → ℕ) (right : Tree (PatternCell heads.Head)) (args args' : List ℕ)
    (nodes nodes' : List Content) (root : Content) : Type 0 where
  pub extra : List ℕ
  pub args_are : args' ≡ args ++ extra
  pub few : length extra ≤ size right
  pub more : List Content
  pub nodes_are : nodes' ≡ nodes ++ more
  pub hold : map (shape_of args') more ≡ new_shapes met (length nodes) right
  pub within : AllByRecursion (HasArgumentsWithin (length args')) more
  pub root_holds : shape_of args' root ≡ root_shape met (length nodes) right
  pub root_within : HasArgumentsWithin (length args') root

-- whether the cell is a head, as a number
abbrev pub is_head : cells.Cell → ℕ
is_head (Head h arity) = 1
is_head (Var x) = 0
is_head (Class x class) = 0

-- how many of the cells from 1 to this one are heads
abbrev pub heads_upto : Tree (PatternCell heads.Head) → ℕ → ℕ
heads_upto p zero = 0
heads_upto p (suc i) = heads_upto p i + is_head (root_cell (nth_subtree p (suc i)))
