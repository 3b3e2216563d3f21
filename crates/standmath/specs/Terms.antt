-- The grammar of terms: term = name [ "(" [ term { "," term } ] ")" ] | numeral | string
use Rattle.std.specs.Prelude.{◌≡◌, List, [], ◌∷◌, ◌++◌, map}
use Rattle.term_lex.specs.declared.token.TokenKind.{TokenKind}
use Rattle.term_lex.specs.declared.token.TokenKind.TheVariants.{Name, Numeral, Text, OpenRound, CloseRound, Comma, Dot}
use Rattle.term_lex.specs.Lexemes.{Lexeme}
use Rattle.term_lex.specs.Parts.{IsKind, One, Then, Some}

-- a term as it is written, with the lexemes of its names, numerals and strings
mutual
  pub data Written : Type 0 where
    Constant : Lexeme → Written  -- a
    Value : Lexeme → Written  -- 12 or "text"
    Empty : Lexeme → Written  -- a()
    Call : Lexeme → Written → Others → Written  -- f(x, y, z): the first argument, then the others

  -- the arguments after the first
  pub data Others : Type 0 where
    NoMore : Others
    More : Written → Others → Others

-- what a lexeme is to the grammar
pub data Terminal : Type 0 where
  Word : Lexeme → Terminal  -- a name
  Literal : Lexeme → Terminal  -- a numeral or a string
  Sign : TokenKind → Terminal  -- any other lexeme, of which only the kind counts

-- a lexeme of the kind
abbrev pub terminal_of_kind : TokenKind → Lexeme → Terminal
terminal_of_kind Name x = Word x
terminal_of_kind Numeral x = Literal x
terminal_of_kind Text x = Literal x
terminal_of_kind kind x = Sign kind

-- what this lexeme is to the grammar
abbrev pub terminal_of : Lexeme → Terminal
terminal_of x = terminal_of_kind x.token.kind x

-- how the term is spelled
abbrev mutual
  pub spelling : Written → List Terminal
  spelling (Constant x) = Word x ∷ []
  spelling (Value x) = Literal x ∷ []
  spelling (Empty x) = Word x ∷ Sign OpenRound ∷ Sign CloseRound ∷ []
  spelling (Call x first others) =
      Word x ∷ Sign OpenRound ∷ (spelling first ++ behind_commas others ++ Sign CloseRound ∷ [])

  -- each of them behind a comma
  pub behind_commas : Others → List Terminal
  behind_commas NoMore = []
  behind_commas (More t others) = Sign Comma ∷ (spelling t ++ behind_commas others)

-- the lexemes are the term
abbrev pub IsTerm : Written → List Lexeme → Type 0
IsTerm written lexemes = spelling written ≡ map terminal_of lexemes

-- the lexemes are some term
abbrev pub IsSomeTerm : List Lexeme → Type 0
IsSomeTerm lexemes = Some IsTerm lexemes

-- the lexemes are the term and a dot
abbrev pub IsDotted : Written → List Lexeme → Type 0
IsDotted written lexemes = Then (IsTerm written) (One (IsKind Dot)) lexemes

-- the lexemes are some term and a dot
abbrev pub IsSomeDotted : List Lexeme → Type 0
IsSomeDotted lexemes = Then IsSomeTerm (One (IsKind Dot)) lexemes
