-- The grammar of terms with lists:
-- term = name [ "[" [ term { ";" term } ] "]" ] | numeral | string | list
-- list = "(" ")" | "(" term { term } [ "." term ] ")"
use Rattle.std.specs.Prelude.{◌≡◌, List, [], ◌∷◌, ◌++◌, map}
use Rattle.term_lex.specs.declared.token.TokenKind.{TokenKind}
use Rattle.term_lex.specs.declared.token.TokenKind.TheVariants.{Name, Numeral, Text, OpenRound, CloseRound, OpenSquare, CloseSquare, Semicolon, Dot}
use Rattle.term_lex.specs.Lexemes.{Lexeme}
use Rattle.term_lex.specs.Parts.{Some}

-- a term as it is written, with the lexemes of its names, numerals and strings, and of the brackets that open
-- its lists
mutual
  pub data Written : Type 0 where
    Constant : Lexeme → Written  -- a
    Value : Lexeme → Written  -- 12 or "text"
    Empty : Lexeme → Written  -- a[]
    Call : Lexeme → Written → Others → Written  -- f[x; y; z]: the first argument, then the others
    Nil : Lexeme → Written  -- ()
    Elements : Lexeme → Written → Rest → Written  -- (x y z) or (x y . z): the first element, then the rest

  -- the arguments after the first
  pub data Others : Type 0 where
    NoMore : Others
    More : Written → Others → Others

  -- what stands behind an element: the end, a dot and a last term, or one more element
  pub data Rest : Type 0 where
    Close : Rest
    Dotted : Written → Rest
    Further : Written → Rest → Rest

-- what a lexeme is to the grammar
pub data Terminal : Type 0 where
  Word : Lexeme → Terminal  -- a name
  Literal : Lexeme → Terminal  -- a numeral or a string
  Opening : Lexeme → Terminal  -- the bracket that opens a list
  Sign : TokenKind → Terminal  -- any other lexeme, of which only the kind counts

-- a lexeme of the kind
abbrev pub terminal_of_kind : TokenKind → Lexeme → Terminal
terminal_of_kind Name x = Word x
terminal_of_kind Numeral x = Literal x
terminal_of_kind Text x = Literal x
terminal_of_kind OpenRound x = Opening x
terminal_of_kind kind x = Sign kind

-- what this lexeme is to the grammar
abbrev pub terminal_of : Lexeme → Terminal
terminal_of x = terminal_of_kind x.token.kind x

-- how the term is spelled
abbrev mutual
  pub spelling : Written → List Terminal
  spelling (Constant x) = Word x ∷ []
  spelling (Value x) = Literal x ∷ []
  spelling (Empty x) = Word x ∷ Sign OpenSquare ∷ Sign CloseSquare ∷ []
  spelling (Call x first others) = Word x ∷ Sign OpenSquare ∷ (spelling first ++ behind_argument others)
  spelling (Nil x) = Opening x ∷ Sign CloseRound ∷ []
  spelling (Elements x first rest) = Opening x ∷ (spelling first ++ behind_element rest)

  -- each of the others behind a semicolon, and the bracket
  pub behind_argument : Others → List Terminal
  behind_argument NoMore = Sign CloseSquare ∷ []
  behind_argument (More t others) = Sign Semicolon ∷ (spelling t ++ behind_argument others)

  -- the rest and the bracket
  pub behind_element : Rest → List Terminal
  behind_element Close = Sign CloseRound ∷ []
  behind_element (Dotted t) = Sign Dot ∷ (spelling t ++ Sign CloseRound ∷ [])
  behind_element (Further t rest) = spelling t ++ behind_element rest

-- the lexemes are the term
abbrev pub IsTerm : Written → List Lexeme → Type 0
IsTerm written lexemes = spelling written ≡ map terminal_of lexemes

-- the lexemes are some term
abbrev pub IsSomeTerm : List Lexeme → Type 0
IsSomeTerm lexemes = Some IsTerm lexemes
