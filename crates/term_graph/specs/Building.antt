-- What the nodes hold that a right side makes.
use Rattle.std.specs.Prelude.{ℕ, suc, ◌+◌, List, [], ◌∷◌, ◌++◌}
use Rattle.eq_base.specs.Tree.{Tree, Forest, node, empty, grow}
use Rattle.eq_base.specs.Pattern.{PatternCell, fixed, variable, restricted}
use Rattle.term_graph.specs.Shapes.{Shape, own, same}
use Rattle.graph_laws.specs.Replacing.{head_count}

module _ {H : Type 0} (met : ℕ → ℕ) where
  -- the nodes of these patterns, whose heads have the numbers from k on in preorder; a variable stands at the
  -- node that it met
  abbrev pub numbers : ℕ → Forest (PatternCell H) → List ℕ
  numbers k empty = []
  numbers k (grow (node (fixed h) qs) ps) = k ∷ numbers (k + head_count (node (fixed h) qs)) ps
  numbers k (grow (node (variable x) qs) ps) = met x ∷ numbers k ps
  numbers k (grow (node (restricted x class) qs) ps) = met x ∷ numbers k ps

  -- what the nodes of their heads hold, in preorder
  abbrev mutual
    pub shapes : ℕ → Tree (PatternCell H) → List (Shape H)
    shapes k (node (fixed h) ps) = own h (numbers (suc k) ps) ∷ all_shapes (suc k) ps
    shapes k (node (variable x) ps) = []
    shapes k (node (restricted x class) ps) = []

    pub all_shapes : ℕ → Forest (PatternCell H) → List (Shape H)
    all_shapes k empty = []
    all_shapes k (grow p ps) = shapes k p ++ all_shapes (k + head_count p) ps

  -- what the replaced node holds, where the new nodes have the numbers from k on
  abbrev pub root_shape : ℕ → Tree (PatternCell H) → Shape H
  root_shape k (node (fixed h) ps) = own h (numbers k ps)
  root_shape k (node (variable x) ps) = same (met x)
  root_shape k (node (restricted x class) ps) = same (met x)

  -- what the new nodes hold
  abbrev pub new_shapes : ℕ → Tree (PatternCell H) → List (Shape H)
  new_shapes k (node (fixed h) ps) = all_shapes k ps
  new_shapes k (node (variable x) ps) = []
  new_shapes k (node (restricted x class) ps) = []
