-- The notation: names with their arguments in round brackets.
use Rattle.eq_base.specs.Tree.{Tree, Forest, node, empty, grow}
use Rattle.term_lex.specs.Lexemes.{Lexeme, Plainly}
use Rattle.written_terms.specs.Notation.{Notation}
use Rattle.standmath.specs.Terms.{Written, Others, Constant, Value, Empty, Call, NoMore, More, IsTerm}

-- the term without its brackets and commas
abbrev mutual
  pub outline : Written → Tree Lexeme
  outline (Constant x) = node x empty
  outline (Value x) = node x empty
  outline (Empty x) = node x empty
  outline (Call x first others) = node x (grow (outline first) (outlines others))

  -- the outlines of its other arguments
  pub outlines : Others → Forest Lexeme
  outlines NoMore = empty
  outlines (More t others) = grow (outline t) (outlines others)

-- the terms of the grammar, their outlines, and the plain fault of a misplaced lexeme
abbrev pub standmath : Notation
standmath = record {
  Written = Written;
  IsTerm = IsTerm;
  outline = outline;
  Misplaced = λ IsSentence. Plainly;
}
