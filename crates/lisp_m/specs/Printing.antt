-- The print of a term with lists.
use Rattle.std.specs.Prelude.{ℕ, Bool, ◌==◌, ◌&&◌, cond, List, [], ◌++◌, codes}
use Rattle.std.specs.List.{list_any}
use Rattle.std.specs.Str.{bytes_eq}
use Rattle.eq_base.specs.Tree.{Tree, Forest, node, empty, grow, count}
use Rattle.eq_base.specs.ReadHead.{ReadHead, symbol}
use Rattle.symbol_table.specs.Table.{Table}
use Rattle.written_terms.specs.Printing.{head_text, symbol_name}
use Rattle.lisp_m.specs.declared.write.Part.{Part}
use Rattle.lisp_m.specs.declared.write.Part.TheVariants.{Element, End, Other}

-- ---- which terms are lists

-- the table declares the name with so many arguments
abbrev pub declares : Table → List ℕ → ℕ → Bool
declares table name arity = list_any (λ d. bytes_eq d.name name && d.arity == arity) table.declared

-- lists can be written: `cons` is declared with two arguments and `nil` with none
abbrev pub has_lists : Table → Bool
has_lists table = declares table (codes "cons") 2 && declares table (codes "nil") 0

-- what a symbol with so many arguments is in a list
abbrev pub symbol_part : Bool → Bool → ℕ → Part
symbol_part is_cons is_nil args = cond (is_cons && args == 2) Element (cond (is_nil && args == 0) End Other)

-- what a head with so many arguments is in a list, where lists can be written
abbrev pub list_part : Table → ReadHead → ℕ → Part
list_part table (symbol n) args =
    let name = symbol_name table n in
    cond (has_lists table)
    (symbol_part (bytes_eq name (codes "cons")) (bytes_eq name (codes "nil")) args)
    Other
list_part table head args = Other

-- ---- how terms are printed

-- one of three, by what a term is in a list
abbrev pub choose : {A : Type 0} → Part → A → A → A → A
choose Element element end other = element
choose End element end other = end
choose Other element end other = other

-- Heads have texts, and over so many arguments they are parts of lists.
module _ {H : Type 0} (text_of : H → List ℕ) (part_of : H → ℕ → Part) where
  abbrev mutual
    -- a list in round brackets; any other term is the text of its head, with the arguments behind it in
    -- square brackets
    pub print_by : Tree H → List ℕ
    print_by (node head args) =
        choose (part_of head (count args))
        (codes "(" ++ in_list args)
        (codes "()")
        (text_of head ++ in_brackets args)

    -- the arguments, with a semicolon and a blank between two
    pub in_brackets : Forest H → List ℕ
    in_brackets empty = []
    in_brackets (grow t ts) = codes "[" ++ print_by t ++ behind_semicolons ts ++ codes "]"

    pub behind_semicolons : Forest H → List ℕ
    behind_semicolons empty = []
    behind_semicolons (grow t ts) = codes "; " ++ print_by t ++ behind_semicolons ts

    -- an element and the rest of its list
    pub in_list : Forest H → List ℕ
    in_list empty = []
    in_list (grow t ts) = print_by t ++ behind_element ts

    pub behind_element : Forest H → List ℕ
    behind_element empty = []
    behind_element (grow t ts) = print_rest t

    -- what stands behind an element: a blank and the next one, the bracket that closes the list, or a dot
    -- and the last term
    pub print_rest : Tree H → List ℕ
    print_rest (node head args) =
        choose (part_of head (count args))
        (codes " " ++ in_list args)
        (codes ")")
        (codes " . " ++ text_of head ++ in_brackets args ++ codes ")")

-- the print of a term: its symbols by their names in the table
abbrev pub print : Table → Tree ReadHead → List ℕ
print table t = print_by (head_text table) (list_part table) t
