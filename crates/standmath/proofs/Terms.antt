-- Which lexemes begin a term, and which go on behind a whole one.
use Rattle.std.proofs.Common.{◌≡◌, List, [], ◌∷◌, ◌++◌, ◌⊎◌, inl, inr, refl, sym, ap, ◌∙◌, append_assoc, append-nil, map, false}
use Rattle.std.proofs.lemmas.List.{map-append}
use Rattle.term_lex.specs.declared.token.TokenKind.{TokenKind}
use Rattle.term_lex.specs.declared.token.TokenKind.TheVariants.{Name, Numeral, Text, OpenRound, CloseRound}
use Rattle.term_lex.specs.Lexemes.{Lexeme}
use Rattle.term_lex.proofs.Marks.{Mark, Kind, HasMark}
use Rattle.term_lex.proofs.Parts.{IsPart}
use Rattle.standmath.specs.Terms.{Terminal, Word, Literal, Sign, Written, Others, Constant, Value, Empty, Call, NoMore, More, spelling, behind_commas, terminal_of, terminal_of_kind, IsSomeTerm}

-- the list goes on with an opening bracket
abbrev Opens : List Terminal → Type 0
Opens r = (tail : List Terminal) × (r ≡ Sign OpenRound ∷ tail)

commas_no_open : (ts : Others) (r tail : List Terminal) → behind_commas ts ++ Sign CloseRound ∷ r ≡ Sign OpenRound ∷ tail → ⊥
commas_no_open NoMore r tail e = cc
commas_no_open (More t ts) r tail e = cc

starts_no_close : (t : Written) (k : TokenKind) (r tail : List Terminal) → Sign k ∷ r ≡ spelling t ++ tail → ⊥
starts_no_close (Constant a) k r tail e = cc
starts_no_close (Value a) k r tail e = cc
starts_no_close (Empty a) k r tail e = cc
starts_no_close (Call a first others) k r tail e = cc

-- Two terms at the front of one list are the same, or one is a name and the other goes on with its arguments.
mutual
  same_term : (t u : Written) (r s : List Terminal) → spelling t ++ r ≡ spelling u ++ s → (r ≡ s) ⊎ (Opens r ⊎ Opens s)
  same_term (Constant a) (Constant b) r s e = inl (cc)
  same_term (Constant a) (Value b) r s e = cc
  same_term (Constant a) (Empty b) r s e = inr (inl (Sign CloseRound ∷ s, cc))
  same_term (Constant a) (Call b first others) r s e = inr (inl ((spelling first ++ behind_commas others ++ Sign CloseRound ∷ []) ++ s, cc))
  same_term (Value a) (Constant b) r s e = cc
  same_term (Value a) (Value b) r s e = inl (cc)
  same_term (Value a) (Empty b) r s e = cc
  same_term (Value a) (Call b first others) r s e = cc
  same_term (Empty a) (Constant b) r s e = inr (inr (Sign CloseRound ∷ r, cc))
  same_term (Empty a) (Value b) r s e = cc
  same_term (Empty a) (Empty b) r s e = inl (cc)
  same_term (Empty a) (Call b first others) r s e = absurd (starts_no_close first CloseRound r ((behind_commas others ++ Sign CloseRound ∷ []) ++ s) (cc (append_assoc (spelling first ++ behind_commas others) (Sign CloseRound ∷ []) s, append_assoc (spelling first) (behind_commas others) (Sign CloseRound ∷ s), append_assoc (behind_commas others) (Sign CloseRound ∷ []) s)))
  same_term (Call a first others) (Constant b) r s e = inr (inr ((spelling first ++ behind_commas others ++ Sign CloseRound ∷ []) ++ r, cc))
  same_term (Call a first others) (Value b) r s e = cc
  same_term (Call a first others) (Empty b) r s e = absurd (starts_no_close first CloseRound s ((behind_commas others ++ Sign CloseRound ∷ []) ++ r) (cc (append_assoc (spelling first ++ behind_commas others) (Sign CloseRound ∷ []) r, append_assoc (spelling first) (behind_commas others) (Sign CloseRound ∷ r), append_assoc (behind_commas others) (Sign CloseRound ∷ []) r)))
  same_term (Call a first others) (Call b first' others') r s e = elim (same_term first first' (behind_commas others ++ Sign CloseRound ∷ r) (behind_commas others' ++ Sign CloseRound ∷ s) (cc (append_assoc (spelling first ++ behind_commas others) (Sign CloseRound ∷ []) r, append_assoc (spelling first) (behind_commas others) (Sign CloseRound ∷ r), append_assoc (spelling first' ++ behind_commas others') (Sign CloseRound ∷ []) s, append_assoc (spelling first') (behind_commas others') (Sign CloseRound ∷ s)))) [
    | inl f ↦ inl (same_others others others' r s f)
    | inr (inl (tail, f)) ↦ absurd (commas_no_open others r tail f)
    | inr (inr (tail, f)) ↦ absurd (commas_no_open others' s tail f)
  ]

  same_others : (ts us : Others) (r s : List Terminal) → behind_commas ts ++ Sign CloseRound ∷ r ≡ behind_commas us ++ Sign CloseRound ∷ s → r ≡ s
  same_others NoMore NoMore r s e = cc
  same_others NoMore (More u us) r s e = cc
  same_others (More t ts) NoMore r s e = cc
  same_others (More t ts) (More u us) r s e = elim (same_term t u (behind_commas ts ++ Sign CloseRound ∷ r) (behind_commas us ++ Sign CloseRound ∷ s) (cc (append_assoc (spelling t) (behind_commas ts) (Sign CloseRound ∷ r), append_assoc (spelling u) (behind_commas us) (Sign CloseRound ∷ s)))) [
    | inl f ↦ same_others ts us r s f
    | inr (inl (tail, f)) ↦ absurd (commas_no_open ts r tail f)
    | inr (inr (tail, f)) ↦ absurd (commas_no_open us s tail f)
  ]

-- a term begins with a name or a literal
kind_of_word : (k : TokenKind) (t u : Lexeme) → terminal_of_kind k t ≡ Word u → k ≡ Name
kind_of_word Name t u e = refl
kind_of_word Numeral t u e = cc
kind_of_word Text t u e = cc
kind_of_word kind t u e = cc

kind_of_literal : (k : TokenKind) (t u : Lexeme) → terminal_of_kind k t ≡ Literal u → (k ≡ Numeral) ⊎ (k ≡ Text)
kind_of_literal Name t u e = cc
kind_of_literal Numeral t u e = inl refl
kind_of_literal Text t u e = inr refl
kind_of_literal kind t u e = cc

kind_of_open : (k : TokenKind) (t : Lexeme) → terminal_of_kind k t ≡ Sign OpenRound → k ≡ OpenRound
kind_of_open Name t e = cc
kind_of_open Numeral t e = cc
kind_of_open Text t e = cc
kind_of_open kind t e = cc

abbrev pub term_marks : List Mark
term_marks = Kind Name ∷ Kind Numeral ∷ Kind Text ∷ []

begins_term : (t : Written) (x : Lexeme) (rest : List Terminal) → spelling t ≡ terminal_of x ∷ rest → HasMark term_marks x
begins_term (Constant a) x rest e = inl (kind_of_word x.token.kind x a (cc))
begins_term (Value a) x rest e = elim (kind_of_literal x.token.kind x a (cc)) [ inl k ↦ inr (inl k) | inr k ↦ inr (inr (inl k)) ]
begins_term (Empty a) x rest e = inl (kind_of_word x.token.kind x a (cc))
begins_term (Call a first others) x rest e = inl (kind_of_word x.token.kind x a (cc))

abbrev some_name : Lexeme
some_name = record { token = record { kind = Name; from = 0; to = 0 }; bytes = [] }

a_term : IsSomeTerm (some_name ∷ [])
a_term = (Constant some_name, refl)

no_empty : (t : Written) → spelling t ≡ [] → ⊥
no_empty (Constant a) e = cc
no_empty (Value a) e = cc
no_empty (Empty a) e = cc
no_empty (Call a first others) e = cc

pub term_part : IsPart IsSomeTerm false term_marks (Kind OpenRound ∷ [])
term_part = record {
  some = some_name ∷ [];
  some_is = a_term;
  empty = λ (t, e). absurd (no_empty t e);
  begins = λ x (more, (t, e)). begins_term t x _ e;
  goes_on = λ xs x (t, e) (more, (u, f)).
      let tail = map terminal_of more in
      let split : map terminal_of ((xs ++ x ∷ []) ++ more) ≡ map terminal_of xs ++ terminal_of x ∷ tail = ap (map terminal_of) (append_assoc xs (x ∷ []) more) ∙ map-append terminal_of xs (x ∷ more) in
      let both : spelling t ++ terminal_of x ∷ tail ≡ spelling u ++ [] = ap (λ ys. ys ++ terminal_of x ∷ tail) e ∙ sym split ∙ sym f ∙ sym (append-nil (spelling u)) in
      elim (same_term t u (terminal_of x ∷ tail) [] both) [
        | inl none ↦ cc
        | inr (inl (rest, opens)) ↦ inl (kind_of_open x.token.kind x (cc))
        | inr (inr (rest, opens)) ↦ cc
      ];
}
