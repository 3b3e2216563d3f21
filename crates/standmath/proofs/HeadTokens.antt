-- The lexemes of an outline are names, and literals without arguments.
use Rattle.std.proofs.Common.{◌≡◌, ℕ, List, [], ◌∷◌, ◌++◌, map, inl, inr, refl, sym, subst}
use Rattle.std.specs.List.{AllByRecursion}
use Rattle.eq_base.specs.Tree.{cells, all_cells}
use Rattle.eq_base.proofs.Lists.{all_front, all_back, all_both}
use Rattle.term_lex.specs.declared.token.TokenKind.{TokenKind}
use Rattle.term_lex.specs.declared.token.TokenKind.TheVariants.{Name, Numeral, Text, CloseRound}
use Rattle.term_lex.specs.Lexemes.{Lexeme}
use Rattle.standmath.specs.Terms.{Terminal, Word, Literal, Sign, Written, Others, Constant, Value, Empty, Call, NoMore, More, spelling, behind_commas, terminal_of, terminal_of_kind, IsTerm}
use Rattle.standmath.specs.Notation.{outline, outlines}
use Rattle.written_terms.specs.Mentions.{IsLiteralKind, IsHeadToken}

-- a lexeme with so many arguments is a name, or a literal without any
abbrev pub IsHead : Lexeme × ℕ → Type 0
IsHead x = IsHeadToken x.0.token x.1

-- the terminal is that of a lexeme
abbrev IsTerminal : Terminal → Type 0
IsTerminal s = (y : Lexeme) × (s ≡ terminal_of y)

terminals : (lexemes : List Lexeme) → AllByRecursion IsTerminal (map terminal_of lexemes)
terminals [] = tt
terminals (x ∷ xs) = ((x, refl), terminals xs)

-- what the terminal says of its lexeme
abbrev Says : Terminal → Type 0
Says (Word x) = x.token.kind ≡ Name
Says (Literal x) = IsLiteralKind x.token.kind
Says (Sign kind) = Unit {0}

says_kind : (kind : TokenKind) (y : Lexeme) → y.token.kind ≡ kind → Says (terminal_of_kind kind y)
says_kind Name y e = e
says_kind Numeral y e = inl e
says_kind Text y e = inr e
says_kind kind y e = tt

says : (s : Terminal) → IsTerminal s → Says s
says s (y, e) = subst Says (sym e) (says_kind y.token.kind y refl)

mutual
  heads_of : (t : Written) → AllByRecursion IsTerminal (spelling t) → AllByRecursion IsHead (cells (outline t))
  heads_of (Constant x) (word, rest) = (inl (says (Word x) word), tt)
  heads_of (Value x) (literal, rest) = (inr (inl (says (Literal x) literal, refl)), tt)
  heads_of (Empty x) (word, rest) = (inl (says (Word x) word), tt)
  heads_of (Call x first others) (word, (sign, rest)) =
      let close = Sign CloseRound ∷ [] in
      let front = all_front IsTerminal (spelling first ++ behind_commas others) close rest in
      (inl (says (Word x) word), all_both IsHead (cells (outline first)) (all_cells (outlines others)) (heads_of first (all_front IsTerminal (spelling first) (behind_commas others) front)) (heads_of_others others (all_back IsTerminal (spelling first) (behind_commas others) front)))

  heads_of_others : (ts : Others) → AllByRecursion IsTerminal (behind_commas ts) → AllByRecursion IsHead (all_cells (outlines ts))
  heads_of_others NoMore all = tt
  heads_of_others (More t others) (sign, rest) =
      all_both IsHead (cells (outline t)) (all_cells (outlines others)) (heads_of t (all_front IsTerminal (spelling t) (behind_commas others) rest)) (heads_of_others others (all_back IsTerminal (spelling t) (behind_commas others) rest))

pub heads_of_term : (t : Written) (lexemes : List Lexeme) → IsTerm t lexemes → AllByRecursion IsHead (cells (outline t))
heads_of_term t lexemes spelled = heads_of t (subst (AllByRecursion IsTerminal) (sym spelled) (terminals lexemes))
