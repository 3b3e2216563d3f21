-- What all lexemes of a Standmath term have, the lexemes of its outline have.
use Rattle.std.proofs.Common.{ℕ, List, [], ◌∷◌, ◌++◌, map, sym, subst}
use Rattle.std.specs.List.{AllByRecursion}
use Rattle.eq_base.specs.Tree.{cells, all_cells}
use Rattle.eq_base.proofs.Lists.{all_front, all_back, all_both}
use Rattle.term_lex.specs.declared.token.TokenKind.{TokenKind}
use Rattle.term_lex.specs.declared.token.TokenKind.TheVariants.{Name, Numeral, Text, CloseRound}
use Rattle.term_lex.specs.Lexemes.{Lexeme}
use Rattle.standmath.specs.Terms.{Terminal, Word, Literal, Sign, Written, Others, Constant, Value, Empty, Call, NoMore, More, spelling, behind_commas, terminal_of, terminal_of_kind, IsTerm}
use Rattle.standmath.specs.Notation.{outline, outlines}

-- the lexeme of the terminal, if it has one, has this
abbrev Says : (Lexeme → Type 0) → Terminal → Type 0
Says P (Word x) = P x
Says P (Literal x) = P x
Says P (Sign kind) = Unit {0}

-- the lexeme of a cell has this
abbrev pub Has : (Lexeme → Type 0) → Lexeme × ℕ → Type 0
Has P c = P c.0

says_kind : (P : Lexeme → Type 0) (kind : TokenKind) (y : Lexeme) → P y → Says P (terminal_of_kind kind y)
says_kind P Name y p = p
says_kind P Numeral y p = p
says_kind P Text y p = p
says_kind P kind y p = tt

terminals : (P : Lexeme → Type 0) (lexemes : List Lexeme) → AllByRecursion P lexemes → AllByRecursion (Says P) (map terminal_of lexemes)
terminals P [] all = tt
terminals P (x ∷ xs) (p, all) = (says_kind P x.token.kind x p, terminals P xs all)

mutual
  heads_of : (P : Lexeme → Type 0) (t : Written) → AllByRecursion (Says P) (spelling t) → AllByRecursion (Has P) (cells (outline t))
  heads_of P (Constant x) (word, rest) = (word, tt)
  heads_of P (Value x) (literal, rest) = (literal, tt)
  heads_of P (Empty x) (word, rest) = (word, tt)
  heads_of P (Call x first others) (word, (sign, rest)) =
      let front = all_front (Says P) (spelling first ++ behind_commas others) (Sign CloseRound ∷ []) rest in
      (word, all_both (Has P) (cells (outline first)) (all_cells (outlines others)) (heads_of P first (all_front (Says P) (spelling first) (behind_commas others) front)) (heads_of_others P others (all_back (Says P) (spelling first) (behind_commas others) front)))

  heads_of_others : (P : Lexeme → Type 0) (ts : Others) → AllByRecursion (Says P) (behind_commas ts) → AllByRecursion (Has P) (all_cells (outlines ts))
  heads_of_others P NoMore all = tt
  heads_of_others P (More t others) (sign, rest) =
      all_both (Has P) (cells (outline t)) (all_cells (outlines others)) (heads_of P t (all_front (Says P) (spelling t) (behind_commas others) rest)) (heads_of_others P others (all_back (Says P) (spelling t) (behind_commas others) rest))

pub outline_has : (P : Lexeme → Type 0) (t : Written) (lexemes : List Lexeme) → IsTerm t lexemes → AllByRecursion P lexemes → AllByRecursion (Has P) (cells (outline t))
outline_has P t lexemes spelled all = heads_of P t (subst (AllByRecursion (Says P)) (sym spelled) (terminals P lexemes all))
