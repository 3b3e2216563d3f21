-- The print of a term.
use Rattle.std.specs.Prelude.{ℕ, List, [], ◌++◌, codes}
use Rattle.eq_base.specs.Tree.{Tree, Forest, node, empty, grow}
use Rattle.eq_base.specs.ReadHead.{ReadHead}
use Rattle.symbol_table.specs.Table.{Table}
use Rattle.written_terms.specs.Printing.{head_text}

-- Heads have texts.
module _ {H : Type 0} (text_of : H → List ℕ) where
  -- the text of a constant is that of its head; another term has its arguments behind it in round brackets, with a comma
  -- and a blank between two
  abbrev mutual
    pub print_by : Tree H → List ℕ
    print_by (node head args) = text_of head ++ in_brackets args

    pub in_brackets : Forest H → List ℕ
    in_brackets empty = []
    in_brackets (grow t ts) = codes "(" ++ print_by t ++ behind_commas ts ++ codes ")"

    pub behind_commas : Forest H → List ℕ
    behind_commas empty = []
    behind_commas (grow t ts) = codes ", " ++ print_by t ++ behind_commas ts

-- the print of a term: its symbols by their names in the table
abbrev pub print : Table → Tree ReadHead → List ℕ
print table t = print_by (head_text table) t
