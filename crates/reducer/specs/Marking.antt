-- Which nodes the machine marks.
use Rattle.std.specs.Prelude.{◌≡◌, ℕ, true, false, Some, set, slice_get, slice_index_or}
use Rattle.eq_base.specs.Tree.{arity_of}
use Rattle.eq_base.specs.ReadHead.{ReadHead}
use Rattle.eq_base.specs.Rewriting.{System, IsNormal}
use Rattle.eq_base.specs.declared.head.Head.{Head}
use Rattle.symbol_table.specs.Table.{Table}
use Rattle.symbol_table.specs.Reading.{read_head}
use Rattle.graph_laws.specs.Numbered.{Numbered, plain}
use Rattle.machine_laws.specs.ReadTrees.{with_heads}
use Rattle.term_graph.specs.Graph.{Graph, term_at}

-- the trees of marked nodes are normal
abbrev pub AreMarkedNormal : System ReadHead → Table → Graph → Type 0
AreMarkedNormal system table g = (n : ℕ) (t : Numbered Head) → slice_get g.trees n ≡ Some t
    → slice_index_or g.marks n false ≡ true → IsNormal system (plain (with_heads (read_head table) t))

-- the node is marked where all its arguments are passed, and no other mark changes
pub record MarksPassed (old new : Graph) (n passed : ℕ) : Type 0 where
  pub all : passed ≡ arity_of (term_at old n) → new.marks ≡ set old.marks n true
  pub some : (passed ≡ arity_of (term_at old n) → ⊥) → new.marks ≡ old.marks
