-- What the variables of a left side meet.
use Rattle.std.specs.Prelude.{◌≡◌, ℕ, ◌<◌, ◌==◌, cond, List, [], ◌∷◌, ◌++◌, reverse, length}
use Rattle.eq_base.specs.Pattern.{Substitution}
use Rattle.eq_base.specs.declared.head.Head as heads
use Rattle.eq_base.specs.declared.head.Head.TheVariants as head
use Rattle.term_graph.specs.declared.content.Content.{Content}
use Rattle.term_graph.specs.declared.content.Met.{Met}
use Rattle.graph_laws.specs.Numbered.{Numbered}
use Rattle.term_graph.specs.Shapes.{tree_in, IsRanked}
use Rattle.term_graph.specs.Contents.{shapes_of, Leads}

-- the tree of a node
abbrev pub node_tree : List ℕ → List Content → ℕ → Numbered heads.Head
node_tree args nodes n = tree_in (head.Symbol 0) (shapes_of args nodes) n

-- the node that a variable met, or 0 where it met none
abbrev pub met_node : List Met → ℕ → ℕ
met_node [] x = 0
met_node (m ∷ ms) x = cond (m.variable == x) m.node (met_node ms x)

-- the variable's node has the variable's part, and ranks below the node at which the left side stands
pub record IsBound (args : List ℕ) (nodes : List Content) (n : ℕ) (σ : Substitution (heads.Head × ℕ))
    (met : List Met) (x : ℕ) : Type 0 where
  pub there : met_node met x < length nodes
  pub part : node_tree args nodes (met_node met x) ≡ σ x
  pub below : (rank : ℕ → ℕ) → IsRanked (head.Symbol 0) (shapes_of args nodes) rank
      → rank (met_node met x) < rank n

-- indirections lead from the first nodes to the second ones, one by one
abbrev pub AllLead : List Content → List ℕ → List ℕ → Type 0
AllLead nodes [] [] = Unit {0}
AllLead nodes [] (w ∷ ws) = ⊥
AllLead nodes (m ∷ ms) [] = ⊥
AllLead nodes (m ∷ ms) (w ∷ ws) = Leads nodes m w × AllLead nodes ms ws

-- the nodes to which these lead were pushed, the first one last
pub record ArePushed (nodes : List Content) (ms before after : List ℕ) : Type 0 where
  pub pushed : List ℕ
  pub lead : AllLead nodes ms pushed
  pub items : after ≡ before ++ reverse pushed
