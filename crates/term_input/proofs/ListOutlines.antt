-- What all lexemes of a LISP.M term have, the lexemes of its outline have.
use Rattle.std.proofs.Common.{List, [], ◌∷◌, ◌++◌, map, sym, subst}
use Rattle.std.specs.List.{AllByRecursion}
use Rattle.eq_base.specs.Tree.{cells, all_cells}
use Rattle.eq_base.proofs.Lists.{all_front, all_back, all_both}
use Rattle.term_lex.specs.declared.token.TokenKind.{TokenKind}
use Rattle.term_lex.specs.declared.token.TokenKind.TheVariants.{Name, Numeral, Text, OpenRound, CloseRound}
use Rattle.term_lex.specs.Lexemes.{Lexeme}
use Rattle.lisp_m.specs.Terms.{Terminal, Word, Literal, Opening, Sign, Written, Others, Rest, Constant, Value, Empty, Call, Nil, Elements, NoMore, More, Close, Dotted, Further, spelling, behind_argument, behind_element, terminal_of, terminal_of_kind, IsTerm}
use Rattle.lisp_m.specs.Notation.{outline, outlines, rest_outline}
use Rattle.term_input.proofs.StandmathOutlines.{Has}

-- the lexeme of the terminal, if it has one, has this
abbrev Says : (Lexeme → Type 0) → Terminal → Type 0
Says P (Word x) = P x
Says P (Literal x) = P x
Says P (Opening x) = P x
Says P (Sign kind) = Unit {0}

says_kind : (P : Lexeme → Type 0) (kind : TokenKind) (y : Lexeme) → P y → Says P (terminal_of_kind kind y)
says_kind P Name y p = p
says_kind P Numeral y p = p
says_kind P Text y p = p
says_kind P OpenRound y p = p
says_kind P kind y p = tt

terminals : (P : Lexeme → Type 0) (lexemes : List Lexeme) → AllByRecursion P lexemes → AllByRecursion (Says P) (map terminal_of lexemes)
terminals P [] all = tt
terminals P (x ∷ xs) (p, all) = (says_kind P x.token.kind x p, terminals P xs all)

mutual
  heads_of : (P : Lexeme → Type 0) (t : Written) → AllByRecursion (Says P) (spelling t) → AllByRecursion (Has P) (cells (outline t))
  heads_of P (Constant x) (word, rest) = (word, tt)
  heads_of P (Value x) (literal, rest) = (literal, tt)
  heads_of P (Empty x) (word, rest) = (word, tt)
  heads_of P (Call x first others) (word, (sign, rest)) =
      (word, all_both (Has P) (cells (outline first)) (all_cells (outlines others)) (heads_of P first (all_front (Says P) (spelling first) (behind_argument others) rest)) (heads_of_others P others (all_back (Says P) (spelling first) (behind_argument others) rest)))
  heads_of P (Nil x) (opening, rest) = (opening, tt)
  heads_of P (Elements x first r) (opening, rest) =
      let behind = all_both (Has P) (cells (rest_outline x r)) [] (heads_of_rest P x opening r (all_back (Says P) (spelling first) (behind_element r) rest)) tt in
      (opening, all_both (Has P) (cells (outline first)) (cells (rest_outline x r) ++ []) (heads_of P first (all_front (Says P) (spelling first) (behind_element r) rest)) behind)

  heads_of_others : (P : Lexeme → Type 0) (ts : Others) → AllByRecursion (Says P) (behind_argument ts) → AllByRecursion (Has P) (all_cells (outlines ts))
  heads_of_others P NoMore all = tt
  heads_of_others P (More t others) (sign, rest) =
      all_both (Has P) (cells (outline t)) (all_cells (outlines others)) (heads_of P t (all_front (Says P) (spelling t) (behind_argument others) rest)) (heads_of_others P others (all_back (Says P) (spelling t) (behind_argument others) rest))

  heads_of_rest : (P : Lexeme → Type 0) (x : Lexeme) → P x → (r : Rest) → AllByRecursion (Says P) (behind_element r) → AllByRecursion (Has P) (cells (rest_outline x r))
  heads_of_rest P x p Close all = (p, tt)
  heads_of_rest P x p (Dotted t) (dot, rest) = heads_of P t (all_front (Says P) (spelling t) (Sign CloseRound ∷ []) rest)
  heads_of_rest P x p (Further t r) all =
      let behind = all_both (Has P) (cells (rest_outline x r)) [] (heads_of_rest P x p r (all_back (Says P) (spelling t) (behind_element r) all)) tt in
      (p, all_both (Has P) (cells (outline t)) (cells (rest_outline x r) ++ []) (heads_of P t (all_front (Says P) (spelling t) (behind_element r) all)) behind)

pub outline_has : (P : Lexeme → Type 0) (t : Written) (lexemes : List Lexeme) → IsTerm t lexemes → AllByRecursion P lexemes → AllByRecursion (Has P) (cells (outline t))
outline_has P t lexemes spelled all = heads_of P t (subst (AllByRecursion (Says P)) (sym spelled) (terminals P lexemes all))
