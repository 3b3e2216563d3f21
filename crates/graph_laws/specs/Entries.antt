-- What a graph run and a replacement list replace.
use Rattle.std.specs.Prelude.{ℕ, List, [], ◌∷◌, ◌++◌}
use Rattle.eq_base.specs.Rewriting.{System}
use Rattle.graph_laws.specs.Numbered.{Numbered}
use Rattle.graph_laws.specs.Runs.{GraphRun, start, then, ReplacementList, done, next}

module _ {H : Type 0} {system : System H} where
  -- the nodes that a graph run replaces, in their order
  abbrev pub nodes_of : {root : ℕ} {trees : List (Numbered H)} {n : ℕ} {after : List (Numbered H)}
      → GraphRun system root trees n after → List ℕ
  nodes_of start = []
  nodes_of (then {n = n} run is_next replaced) = nodes_of run ++ n ∷ []

  -- each node with the number of its rule
  abbrev pub entries_of : {root : ℕ} {trees : List (Numbered H)} {n : ℕ} {after : List (Numbered H)}
      → GraphRun system root trees n after → List (ℕ × ℕ)
  entries_of start = []
  entries_of (then {n = n} run is_next replaced) = entries_of run ++ (n, replaced.number) ∷ []

  -- the same of a replacement list
  abbrev pub list_entries : {trees after : List (Numbered H)} {ns : List ℕ}
      → ReplacementList system trees ns after → List (ℕ × ℕ)
  list_entries done = []
  list_entries (next {n = n} replaced rest) = (n, replaced.number) ∷ list_entries rest
