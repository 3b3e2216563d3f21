-- The notation: names with their arguments in square brackets, and lists.
use Rattle.std.specs.Prelude.{◌≡◌, List, [], ◌∷◌, ◌++◌, ◌⊎◌}
use Rattle.eq_base.specs.Tree.{Tree, Forest, node, empty, grow}
use Rattle.term_lex.specs.declared.fault.Fault.{Fault}
use Rattle.term_lex.specs.declared.fault.FaultKind.TheVariants.{DotPlace}
use Rattle.term_lex.specs.declared.token.TokenKind.TheVariants.{CloseRound, Dot}
use Rattle.term_lex.specs.Lexemes.{Lexeme, IsViable, misplaced}
use Rattle.term_lex.specs.Parts.{IsKind}
use Rattle.written_terms.specs.Notation.{Notation}
use Rattle.lisp_m.specs.Terms.{Written, Others, Rest, Constant, Value, Empty, Call, Nil, Elements, NoMore, More, Close, Dotted, Further, IsTerm}

-- the term without its signs: an element of a list stands in a part with the rest of the list, `(a b . c)` as
-- `(a . (b . c))`
abbrev mutual
  pub outline : Written → Tree Lexeme
  outline (Constant x) = node x empty
  outline (Value x) = node x empty
  outline (Empty x) = node x empty
  outline (Call x first others) = node x (grow (outline first) (outlines others))
  outline (Nil x) = node x empty
  outline (Elements x first rest) = node x (grow (outline first) (grow (rest_outline x rest) empty))

  -- the outlines of the other arguments
  pub outlines : Others → Forest Lexeme
  outlines NoMore = empty
  outlines (More t others) = grow (outline t) (outlines others)

  -- the rest of the list that the bracket opens
  pub rest_outline : Lexeme → Rest → Tree Lexeme
  rest_outline x Close = node x empty
  rest_outline x (Dotted t) = outline t
  rest_outline x (Further t rest) = node x (grow (outline t) (grow (rest_outline x rest) empty))

-- a dot where a list could end: directly behind the bracket that opens it, or behind the term that follows
-- its dot
abbrev pub IsDotPlace : (List Lexeme → Type 0) → List Lexeme → Lexeme → Type 0
IsDotPlace IsSentence before x =
    IsKind Dot x × ((close : Lexeme) × IsKind CloseRound close × IsViable IsSentence (before ++ close ∷ []))

-- which fault a lexeme is that cannot stand behind those before it
abbrev pub Misplaced : (List Lexeme → Type 0) → List Lexeme → Lexeme → Fault → Type 0
Misplaced IsSentence before x fault =
    (IsDotPlace IsSentence before x × (fault ≡ record { kind = DotPlace; byte = x.token.from }))
    ⊎ ((¬ IsDotPlace IsSentence before x) × (fault ≡ misplaced x.token))

-- the terms of the grammar, their outlines, and the faults of misplaced lexemes
abbrev pub lisp_m : Notation
lisp_m = record { Written = Written; IsTerm = IsTerm; outline = outline; Misplaced = Misplaced }
