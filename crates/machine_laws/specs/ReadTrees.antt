-- Numbered trees as they are read.
use Rattle.std.specs.Prelude.{List, map}
use Rattle.eq_base.specs.Tree.{map_heads}
use Rattle.eq_base.specs.ReadHead.{ReadHead}
use Rattle.eq_base.specs.declared.head.Head.{Head}
use Rattle.symbol_table.specs.Table.{Table}
use Rattle.symbol_table.specs.Reading.{read_head}
use Rattle.graph_laws.specs.Numbered.{Numbered}

-- the tree with other heads, and the same numbers
abbrev pub with_heads : {A B : Type 0} → (A → B) → Numbered A → Numbered B
with_heads f t = map_heads (λ l. (f l.0, l.1)) t

-- the trees of a store with each head as it is read
abbrev pub read_trees : Table → List (Numbered Head) → List (Numbered ReadHead)
read_trees table trees = map (with_heads (read_head table)) trees
