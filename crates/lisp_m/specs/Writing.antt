-- Printing piece by piece: what is left to write.
use Rattle.std.specs.Prelude.{◌≡◌, ℕ, ◌*◌, ◌+◌, ◌<◌, ◌≤◌, List, [], ◌∷◌, ◌++◌, length, codes, Option, Some, None, IfSome, IsNone, IsSome}
use Rattle.eq_base.specs.Tree.{Tree, args_of, arity_of}
use Rattle.eq_base.specs.Storing.{later_trees}
use Rattle.eq_base.specs.View.{tree_at, IsArgument}
use Rattle.eq_base.specs.declared.head.Head.{Head}
use Rattle.symbol_table.specs.Table.{Table, IsDeclared, names_of}
use Rattle.symbol_table.specs.Reading.{read_head, IsLiveTerm}
use Rattle.written_terms.specs.Meaning.{HasLists}
use Rattle.written_terms.specs.Printing.{text_in}
use Rattle.lisp_m.specs.Printing.{list_part, print_by, print_rest, behind_semicolons}
use Rattle.lisp_m.specs.declared.write.Part.{Part}
use Rattle.lisp_m.specs.declared.write.Piece.{Piece}
use Rattle.lisp_m.specs.declared.write.Piece.TheVariants.{Term, Arguments, ListRest, ListEnd}

-- these are the numbers of `cons` and `nil`, if lists can be written
pub record AreLists (table : Table) (lists : Option (ℕ × ℕ)) : Type 0 where
  pub some : IfSome lists (λ x. IsDeclared table (codes "cons") x.0 2 × IsDeclared table (codes "nil") x.1 0)
  pub none : IsNone lists → ¬ HasLists (names_of table)

-- what a head with so many arguments is in a list, as the table reads it
abbrev pub part_in : Table → Head → ℕ → Part
part_in table head args = list_part (names_of table) (read_head table head) args

-- the print of a term, as the table reads it
abbrev pub print_in : Table → Tree Head → List ℕ
print_in table t = print_by (text_in table) (part_in table) t

-- the two pieces are the element at a node and the rest of its list
pub record IsElement (trees : List (Tree Head)) (n : ℕ) (element rest : Piece) : Type 0 where
  pub first : ℕ
  pub other : ℕ
  pub element_is : element ≡ Term first
  pub rest_is : rest ≡ ListRest other
  pub first_stands : IsArgument trees n 0 first
  pub other_stands : IsArgument trees n 1 other

-- The nodes are those of a view.
module _ (table : Table) (trees : List (Tree Head)) where
  -- the text of a piece
  abbrev pub piece_text : Piece → List ℕ
  piece_text (Term n) = print_in table (tree_at trees n)
  piece_text (Arguments n written) =
      behind_semicolons (text_in table) (part_in table) (later_trees written (args_of (tree_at trees n)))
      ++ codes "]"
  piece_text (ListRest n) = print_rest (text_in table) (part_in table) (tree_at trees n)
  piece_text ListEnd = codes ")"

  -- the texts of the pieces, the next one first
  abbrev pub text_left : List Piece → List ℕ
  text_left [] = []
  text_left (piece ∷ others) = piece_text piece ++ text_left others

  -- more than the number of steps in which they are written
  abbrev pub steps_left : List Piece → ℕ
  steps_left pieces = 2 * length (text_left pieces) + length pieces

  -- a node whose term can be printed
  pub record IsNode (n : ℕ) : Type 0 where
    pub there : n < length trees
    pub live : IsLiveTerm table (tree_at trees n)

  -- a piece whose terms can be printed
  abbrev pub IsPiece : Piece → Type 0
  IsPiece (Term n) = IsNode n
  IsPiece (Arguments n written) = IsNode n × (written ≤ arity_of (tree_at trees n))
  IsPiece (ListRest n) = IsNode n
  IsPiece ListEnd = Unit {0}

  -- each of them is such
  abbrev pub ArePieces : List Piece → Type 0
  ArePieces [] = Unit {0}
  ArePieces (piece ∷ others) = IsPiece piece × ArePieces others

  -- the two pieces, if there are any
  abbrev pub two_pieces : Option (Piece × Piece) → List Piece
  two_pieces None = []
  two_pieces (Some (first, second)) = first ∷ second ∷ []

  -- bytes with which the text begins are written, and the pieces are what is left of it; there is a byte
  -- where pieces are left
  pub record WritesFront (old new text : List ℕ) (left : Option (Piece × Piece)) : Type 0 where
    pub bytes : List ℕ
    pub added : new ≡ old ++ bytes
    pub whole : text ≡ bytes ++ text_left (two_pieces left)
    pub some : IsSome left → 0 < length bytes
    pub pieces : ArePieces (two_pieces left)
