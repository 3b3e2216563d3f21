-- What may follow the lexemes so far.
use Rattle.std.proofs.Common.{◌≡◌, false, List, [], ◌∷◌, ◌++◌, inl, inr, refl, sym, ◌∙◌, append_assoc, append-nil, subst, ◌↔◌, map, Option, Some, None}
use Rattle.term_lex.specs.declared.token.TokenKind.{TokenKind}
use Rattle.term_lex.specs.declared.token.TokenKind.TheVariants.{Name, Numeral, Text, OpenRound, OpenSquare}
use Rattle.term_lex.specs.Lexemes.{Lexeme, IsViable}
use Rattle.term_lex.proofs.Readings.{viable_front}
use Rattle.term_lex.proofs.Marks.{Kind, HasMark}
use Rattle.term_lex.proofs.Parts.{IsPart}
use Rattle.written_terms.proofs.Notations.{term_first}
use Rattle.lisp_m.specs.declared.place.Place.{Place}
use Rattle.lisp_m.specs.declared.place.Place.TheVariants.{Term, First, AfterName, AfterTerm}
use Rattle.lisp_m.specs.declared.place.Bracket.{Bracket}
use Rattle.lisp_m.specs.Terms.{Terminal, Sign, Constant, spelling, terminal_of, terminal_of_kind, IsSomeTerm}
use Rattle.lisp_m.specs.Steps.{step_of}
use Rattle.lisp_m.proofs.Continuations.{Begins, Completes}
use Rattle.lisp_m.proofs.Steps.{innermost_of, brackets_after, StepIs, step_law, starts_no_sign, starts_something, inside_completes}

-- the lexemes go on to a term exactly by what completes the place
abbrev pub Follows : List Lexeme → Place → List Bracket → Type 0
Follows lexemes place bs = (more : List Lexeme) → IsSomeTerm (lexemes ++ more) ↔ Completes place bs (map terminal_of more)

pub follows_start : Follows [] Term []
follows_start = λ more. (λ (tree, e). (tree, [], sym e ∙ sym (append-nil (spelling tree)), refl), λ (tree, rest, e, c). (tree, cc (append-nil (spelling tree))))

-- what follows one more lexeme, at the place behind it
pub follows_step : (lexemes : List Lexeme) (x : Lexeme) (place next : Place) (bs after : List Bracket) → Follows lexemes place bs → StepIs (Some next) after (λ more. Completes place bs (terminal_of x ∷ more)) → Follows (lexemes ++ x ∷ []) next after
follows_step lexemes x place next bs after follows law = λ more. (
  λ s. (law (map terminal_of more)).0 ((follows (x ∷ more)).0 (subst IsSomeTerm (append_assoc lexemes (x ∷ []) more) s)),
  λ c. subst IsSomeTerm (sym (append_assoc lexemes (x ∷ []) more)) ((follows (x ∷ more)).1 ((law (map terminal_of more)).1 c)),
)

-- where there is no step, no term begins with one more lexeme
pub no_step : (lexemes : List Lexeme) (x : Lexeme) (place : Place) (bs after : List Bracket) → Follows lexemes place bs → StepIs None after (λ more. Completes place bs (terminal_of x ∷ more)) → IsViable IsSomeTerm (lexemes ++ x ∷ []) → ⊥
no_step lexemes x place bs after follows law (more, s) = law (map terminal_of more) ((follows (x ∷ more)).0 (subst IsSomeTerm (append_assoc lexemes (x ∷ []) more) s))

-- ---- each front of a term has its place

abbrev HasPlace : List Lexeme → Type 0
HasPlace lexemes = (place : Place) × (bs : List Bracket) × Follows lexemes place bs

place_behind : (lexemes : List Lexeme) (x : Lexeme) (place : Place) (bs : List Bracket) → Follows lexemes place bs → IsViable IsSomeTerm (lexemes ++ x ∷ []) → HasPlace (lexemes ++ x ∷ [])
place_behind lexemes x place bs follows v = goes (step_of place (innermost_of bs) x.token.kind) (step_law place bs x.token.kind x) where
  goes : (o : Option Place) → StepIs o (brackets_after x.token.kind bs) (λ more. Completes place bs (terminal_of x ∷ more)) → HasPlace (lexemes ++ x ∷ [])
  goes (Some next) law = (next, brackets_after x.token.kind bs, follows_step lexemes x place next bs (brackets_after x.token.kind bs) follows law)
  goes None law = absurd (no_step lexemes x place bs (brackets_after x.token.kind bs) follows law v)

place_of : (xs lexemes : List Lexeme) (place : Place) (bs : List Bracket) → Follows lexemes place bs → IsViable IsSomeTerm (lexemes ++ xs) → HasPlace (lexemes ++ xs)
place_of [] lexemes place bs follows v = (place, bs, subst (λ l. Follows l place bs) (sym (append-nil lexemes)) follows)
place_of (x ∷ xs) lexemes place bs follows v =
    let moved : lexemes ++ x ∷ xs ≡ (lexemes ++ x ∷ []) ++ xs = sym (append_assoc lexemes (x ∷ []) xs) in
    let here = place_behind lexemes x place bs follows (viable_front IsSomeTerm lexemes x xs (lexemes ++ x ∷ xs) refl v) in
    subst HasPlace (sym moved) (place_of xs (lexemes ++ x ∷ []) here.0 here.1 here.2 (subst (IsViable IsSomeTerm) moved v))

-- ---- which lexemes begin a term, and which go on behind a whole one

begins_kind : (kind : TokenKind) (x : Lexeme) (more : List Terminal) → x.token.kind ≡ kind → Begins [] (terminal_of_kind kind x ∷ more) → HasMark term_first x
begins_kind Name x more is b = inl is
begins_kind Numeral x more is b = inr (inl is)
begins_kind Text x more is b = inr (inr (inl is))
begins_kind OpenRound x more is b = inr (inr (inr (inl is)))
begins_kind kind x more is (t, rest, e, c) = absurd (starts_no_sign t _ rest more e)

open_kind : (kind : TokenKind) (x : Lexeme) (rest more : List Terminal) → terminal_of_kind kind x ∷ more ≡ Sign OpenSquare ∷ rest → kind ≡ OpenSquare
open_kind Name x rest more e = cc
open_kind Numeral x rest more e = cc
open_kind Text x rest more e = cc
open_kind OpenRound x rest more e = cc
open_kind kind x rest more e = cc

behind_whole : (place : Place) (bs : List Bracket) (x : Lexeme) (more : List Terminal) → Completes place bs [] → Completes place bs (terminal_of x ∷ more) → x.token.kind ≡ OpenSquare
behind_whole place (b ∷ bs) x more whole c = absurd (inside_completes place b bs whole)
behind_whole Term [] x more (t, rest, e, n) c = absurd (starts_something t rest e)
behind_whole First [] x more (inl (t, rest, e, n)) c = absurd (starts_something t rest e)
behind_whole First [] x more (inr n) c = absurd n
behind_whole AfterName [] x more whole (inl c) = cc
behind_whole AfterName [] x more whole (inr (rest, e, f)) = open_kind x.token.kind x rest more e
behind_whole AfterTerm [] x more whole c = cc

abbrev some_name : Lexeme
some_name = record { token = record { kind = Name; from = 0; to = 0 }; bytes = [] }

pub term_part : IsPart IsSomeTerm false term_first (Kind OpenSquare ∷ [])
term_part = record {
  some = some_name ∷ [];
  some_is = (Constant some_name, refl);
  empty = λ (t, e). absurd (starts_something t [] (sym (append-nil (spelling t) ∙ e)));
  begins = λ x (more, s). begins_kind x.token.kind x (map terminal_of more) refl ((follows_start (x ∷ more)).0 s);
  goes_on = λ xs x s v.
      let here = place_of xs [] Term [] follows_start ([], subst IsSomeTerm (sym (append-nil xs)) s) in
      let whole = (here.2 []).0 (subst IsSomeTerm (sym (append-nil xs)) s) in
      let more = (here.2 (x ∷ v.0)).0 (subst IsSomeTerm (append_assoc xs (x ∷ []) v.0) v.1) in
      inl (behind_whole here.0 here.1 x (map terminal_of v.0) whole more);
}
