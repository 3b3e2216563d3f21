-- The invariant of the loop: which lexemes were read, what was met over them, and what may still come.
use Rattle.std.proofs.Common.{◌≡◌, ℕ, zero, suc, ◌<◌, ◌≤◌, Bool, true, false, not, List, [], ◌∷◌, ◌++◌, inl, inr, refl, sym, ap, ◌∙◌, append_assoc, append-nil, subst, Ok, Err, Some, None, ◌↔◌, map, length, arith, length-append}
use Rattle.std.specs.Prelude.{◌&&◌}
use Rattle.std.specs.List.{AllByRecursion}
use Rattle.std.proofs.lemmas.List.{map-append}
use Rattle.std.proofs.lemmas.Bool.{and_parts}
use Rattle.std.proofs.lemmas.List.Elements.{All-from_recursion}
use Rattle.eq_base.proofs.Positions.{map-map}
use Rattle.term_lex.specs.declared.token.Token.{Token}
use Rattle.term_lex.specs.declared.token.TokenKind.{TokenKind}
use Rattle.term_lex.specs.declared.token.TokenKind.TheVariants.{Name, Numeral, Text, OpenRound, CloseRound, Comma, End}
use Rattle.term_lex.specs.declared.fault.Fault.{Fault}
use Rattle.term_lex.specs.Tokens.{FirstToken}
use Rattle.term_lex.specs.Values.{IsTokenOf}
use Rattle.term_lex.specs.Lexemes.{Lexeme, lexeme, FirstLexeme, Scans, IsViable, IsFirstFault, Plainly, misplaced}
use Rattle.term_lex.proofs.Tokens.{token_within}
use Rattle.term_lex.proofs.Readings.{scans_more, lexeme_found, one_lexeme, no_lexeme}
use Rattle.standmath.specs.declared.place.Place.{Place}
use Rattle.standmath.specs.declared.place.Place.TheVariants.{Term, FirstArgument, AfterName, AfterTerm}
use Rattle.standmath.specs.Terms.{Constant, NoMore, spelling, terminal_of, terminal_of_kind, IsSomeTerm}
use Rattle.standmath.specs.Steps.{step_of, ends_term}
use Rattle.written_terms.specs.Mentions.{IsMention, pair_of, seen}
use Rattle.standmath.specs.Mentions.{Met, increased, counted, met_head, met_kind, is_closed, without_first, Mentioned}
use Rattle.written_terms.specs.declared.mention.Mention.{Mention}
use Rattle.standmath.proofs.Continuations.{Closes, Begins, Completes}
use Rattle.standmath.proofs.Steps.{is_nested, depth_after, StepIs, step_law, whole_completes, inside_completes, unfinished_completes}
use Rattle.eq_base.specs.Tree.{cells}
use Rattle.standmath.specs.Notation.{outline}
use Rattle.standmath.proofs.HeadTokens.{IsHead, heads_of_term}
use Rattle.standmath.proofs.Outlines.{met_all, met_all-append, met_lexeme, nothing, met_term, with_bytes, bytes_of, kind-bytes}

-- each of the heads stands in the text
abbrev pub AreInText : List ℕ → List (Token × ℕ) → Type 0
AreInText text heads = AllByRecursion (λ h. IsTokenOf text h.0) heads

-- The lexemes up to `end` were read, these heads were met over them, and they go on to a term exactly by what completes the place.
pub record Reached (text : List ℕ) (at : ℕ) (place : Place) (met : Met Token) (end : ℕ) : Type 0 where
  pub lexemes : List Lexeme
  pub scanned : Scans text at lexemes end
  pub within : end ≤ length text
  pub met_is : with_bytes text met ≡ met_all (map terminal_of lexemes) nothing
  pub inside : AreInText text met.heads
  pub named : place ≡ AfterName → 0 < length met.heads
  pub follows : (more : List Lexeme) → IsSomeTerm (lexemes ++ more) ↔ Completes place (length met.open_heads) (map terminal_of more)

pub reached_start : (text : List ℕ) (at : ℕ) (met : Met Token) → at ≤ length text → met ≡ record { heads = []; open_heads = [] } → Reached text at Term met at
reached_start text at met le none =
    subst (λ (m : Met Token). Reached text at Term m at) (sym none) (record {
      lexemes = [];
      scanned = refl;
      within = le;
      met_is = refl;
      inside = tt;
      named = λ e. cc;
      follows = λ more. (λ (tree, e). (tree, [], sym e ∙ sym (append-nil (spelling tree)), refl), λ (tree, rest, e, c). (tree, cc (append-nil (spelling tree))));
    })

-- ---- one more token

depth_of : (kind : TokenKind) (t : Token) (m : Met Token) → length (met_kind kind t m).open_heads ≡ depth_after kind (length m.open_heads)
depth_of Name t m = refl
depth_of Numeral t m = refl
depth_of Text t m = refl
depth_of OpenRound t m = refl
depth_of CloseRound t m = goes m.open_heads where
  goes : (ns : List ℕ) → length (without_first ns) ≡ depth_after CloseRound (length ns)
  goes [] = refl
  goes (n ∷ ns) = refl
depth_of kind t m = refl

increased_inside : (text : List ℕ) (n : ℕ) (hs : List (Token × ℕ)) → AreInText text hs → AreInText text (increased n hs)
increased_inside text n [] all = tt
increased_inside text zero (h ∷ hs) all = all
increased_inside text (suc n) (h ∷ hs) (here, all) = (here, increased_inside text n hs all)

counted_inside : (text : List ℕ) (ns : List ℕ) (hs : List (Token × ℕ)) → AreInText text hs → AreInText text (counted ns hs)
counted_inside text [] hs all = all
counted_inside text (n ∷ ns) hs all = increased_inside text n hs all

push_inside : (text : List ℕ) (hs : List (Token × ℕ)) (h : Token × ℕ) → AreInText text hs → IsTokenOf text h.0 → AreInText text (hs ++ h ∷ [])
push_inside text [] h all here = (here, tt)
push_inside text (g ∷ hs) h (there, all) here = (there, push_inside text hs h all here)

head_inside : (text : List ℕ) (t : Token) (m : Met Token) → AreInText text m.heads → IsTokenOf text t → AreInText text (met_head t m).heads
head_inside text t m all here = push_inside text (counted m.open_heads m.heads) (t, 0) (counted_inside text m.open_heads m.heads all) here

kind_inside : (text : List ℕ) (kind : TokenKind) (t : Token) (m : Met Token) → AreInText text m.heads → IsTokenOf text t → AreInText text (met_kind kind t m).heads
kind_inside text Name t m all here = head_inside text t m all here
kind_inside text Numeral t m all here = head_inside text t m all here
kind_inside text Text t m all here = head_inside text t m all here
kind_inside text OpenRound t m all here = all
kind_inside text CloseRound t m all here = all
kind_inside text kind t m all here = all

-- behind a name there is a head
after_name : (place : Place) (kind : TokenKind) (nested : Bool) (t : Token) (m : Met Token) → step_of place kind nested ≡ Some AfterName → 0 < length (met_kind kind t m).heads
after_name Term Name nested t m e = omega (arith, length-append (counted m.open_heads m.heads) ((t, 0) ∷ []))
after_name FirstArgument Name nested t m e = omega (arith, length-append (counted m.open_heads m.heads) ((t, 0) ∷ []))
after_name FirstArgument CloseRound true t m e = cc
after_name FirstArgument CloseRound false t m e = cc
after_name AfterName Comma true t m e = cc
after_name AfterName Comma false t m e = cc
after_name AfterName CloseRound true t m e = cc
after_name AfterName CloseRound false t m e = cc
after_name AfterTerm Comma true t m e = cc
after_name AfterTerm Comma false t m e = cc
after_name AfterTerm CloseRound true t m e = cc
after_name AfterTerm CloseRound false t m e = cc
after_name place kind nested t m e = cc

-- the end of the text takes no step
no_end : (place : Place) (nested : Bool) (next : Place) → step_of place End nested ≡ Some next → ⊥
no_end Term nested next e = cc
no_end FirstArgument nested next e = cc
no_end AfterName nested next e = cc
no_end AfterTerm nested next e = cc

nested_is : (ns : List ℕ) → not (is_closed ns) ≡ is_nested (length ns)
nested_is [] = refl
nested_is (n ∷ ns) = refl

closed_length : (ns : List ℕ) → is_closed ns ≡ true → 0 ≡ length ns
closed_length [] e = refl
closed_length (n ∷ ns) e = cc

open_completes : (ns : List ℕ) (place : Place) → (is_closed ns && ends_term place) ≡ false → Completes place (length ns) [] → ⊥
open_completes [] place e c = unfinished_completes place e 0 c
open_completes (n ∷ ns) place e c = inside_completes place (length ns) c

-- Each place can be completed: by a name where a term has to come, and by closing brackets.
abbrev sign : TokenKind → Lexeme
sign kind = record { token = record { kind = kind; from = 0; to = 0 }; bytes = [] }

abbrev closing : ℕ → List Lexeme
closing zero = []
closing (suc d) = sign CloseRound ∷ closing d

closing_closes : (d : ℕ) → Closes d (map terminal_of (closing d))
closing_closes zero = refl
closing_closes (suc d) = (NoMore, map terminal_of (closing d), refl, closing_closes d)

name_begins : (d : ℕ) → Begins d (map terminal_of (sign Name ∷ closing d))
name_begins d = (Constant (sign Name), map terminal_of (closing d), refl, closing_closes d)

completable : (place : Place) (d : ℕ) → (more : List Lexeme) × Completes place d (map terminal_of more)
completable Term d = (sign Name ∷ closing d, name_begins d)
completable FirstArgument d = (sign Name ∷ closing d, inl (name_begins d))
completable AfterName d = (closing d, inl (closing_closes d))
completable AfterTerm d = (closing d, closing_closes d)

-- mentions whose tokens stand in the text, and whose lexemes are heads
mentions_inside : (text : List ℕ) (ms : List Mention) → AreInText text (map pair_of ms) → AllByRecursion IsHead (map (seen text) ms) → AllByRecursion (λ m. IsMention text m) ms
mentions_inside text [] all heads = tt
mentions_inside text (m ∷ ms) (here, all) (head, heads) = (record { stands = here; head = head }, mentions_inside text ms all heads)

module _ (text : List ℕ) (at : ℕ) (place : Place) (met : Met Token) (end : ℕ) (r : Reached text at place met end) where
  abbrev nested : Bool
  nested = not (is_closed met.open_heads)

  step_from : (kind : TokenKind) (x : Lexeme) → StepIs (step_of place kind nested) (depth_after kind (length met.open_heads)) (λ more. Completes place (length met.open_heads) (terminal_of_kind kind x ∷ more))
  step_from kind x = subst (λ b. StepIs (step_of place kind b) (depth_after kind (length met.open_heads)) (λ more. Completes place (length met.open_heads) (terminal_of_kind kind x ∷ more))) (sym (nested_is met.open_heads)) (step_law place (length met.open_heads) kind x)

  pub reached_step : (next : Place) (new : Met Token) (t : Token) → FirstToken text end (Ok t) → step_of place t.kind nested ≡ Some next → new ≡ met_kind t.kind t met → (Reached text at next new t.to) × (end < t.to)
  reached_step next new t found step is =
      let x = lexeme text t in
      let d = length met.open_heads in
      let law = subst (λ o. StepIs o (depth_after t.kind d) (λ more. Completes place d (terminal_of x ∷ more))) step (step_from t.kind x) in
      let w = token_within text end (Ok t) r.within found in
      let goes_on : t.kind ≡ End → ⊥ = λ e. no_end place nested next (ap (λ k. step_of place k nested) (sym e) ∙ step) in
      let far : t.from < t.to = w.advances goes_on in
      let lexemes = r.lexemes ++ x ∷ [] in
      let depth : length new.open_heads ≡ depth_after t.kind d = ap (λ (m : Met Token). length m.open_heads) is ∙ depth_of t.kind t met in
      let here : IsTokenOf text t = (end, r.within, found) in (
        record {
          lexemes = lexemes;
          scanned = scans_more text at r.lexemes end x r.scanned (lexeme_found text end t found);
          within = w.ends;
          met_is = ap (with_bytes text) is ∙ kind-bytes text t.kind t met ∙ sym (met_lexeme t.kind x (with_bytes text met)) ∙ ap (met_all (terminal_of x ∷ [])) r.met_is ∙ sym (ap (λ xs. met_all xs nothing) (map-append terminal_of r.lexemes (x ∷ [])) ∙ met_all-append (map terminal_of r.lexemes) (terminal_of x ∷ []) nothing);
          inside = subst (λ (m : Met Token). AreInText text m.heads) (sym is) (kind_inside text t.kind t met r.inside here);
          named = λ e. subst (λ (m : Met Token). 0 < length m.heads) (sym is) (after_name place t.kind nested t met (step ∙ ap (λ p. Some p) e));
          follows = λ more. (
            λ s. subst (λ n. Completes next n (map terminal_of more)) (sym depth) ((law (map terminal_of more)).0 ((r.follows (x ∷ more)).0 (subst IsSomeTerm (append_assoc r.lexemes (x ∷ []) more) s))),
            λ c. subst IsSomeTerm (sym (append_assoc r.lexemes (x ∷ []) more)) ((r.follows (x ∷ more)).1 ((law (map terminal_of more)).1 (subst (λ n. Completes next n (map terminal_of more)) depth c))),
          );
        },
        omega (arith, w.starts),
      )

  -- ---- where the loop ends

  -- the lexemes so far are a term exactly where no bracket is open and a term may end
  pub reached_sentence : (is_closed met.open_heads && ends_term place) ≡ true → IsSomeTerm r.lexemes
  reached_sentence whole =
      let p = and_parts _ _ whole in
      let flat : 0 ≡ length met.open_heads = closed_length met.open_heads p.0 in
      subst IsSomeTerm (append-nil r.lexemes) ((r.follows []).1 (subst (λ d. Completes place d []) flat (whole_completes place p.1)))

  reached_unfinished : (is_closed met.open_heads && ends_term place) ≡ false → IsSomeTerm r.lexemes → ⊥
  reached_unfinished unfinished s = open_completes met.open_heads place unfinished ((r.follows []).0 (subst IsSomeTerm (sym (append-nil r.lexemes)) s))

  reached_viable : IsViable IsSomeTerm r.lexemes
  reached_viable = let c = completable place (length met.open_heads) in (c.0, (r.follows c.0).1 c.1)

  -- a lexeme with no step makes the lexemes no longer viable
  refused : (t : Token) → step_of place t.kind nested ≡ None → IsViable IsSomeTerm (r.lexemes ++ lexeme text t ∷ []) → ⊥
  refused t stuck (more, s) =
      let x = lexeme text t in
      let d = length met.open_heads in
      let law = subst (λ o. StepIs o (depth_after t.kind d) (λ more. Completes place d (terminal_of x ∷ more))) stuck (step_from t.kind x) in
      law (map terminal_of more) ((r.follows (x ∷ more)).0 (subst IsSomeTerm (append_assoc r.lexemes (x ∷ []) more) s))

  -- what follows is no part of the term
  abbrev Ends : Type 0
  Ends = (next : Lexeme) → FirstLexeme text end (Ok next) → IsViable IsSomeTerm (r.lexemes ++ next ∷ []) → ⊥

  pub ends_before : (t : Token) → FirstToken text end (Ok t) → step_of place t.kind nested ≡ None → Ends
  ends_before t found stuck = λ next is_next v. let same : next ≡ lexeme text t = one_lexeme text end next (lexeme text t) is_next (lexeme_found text end t found) in refused t stuck (subst (λ (x : Lexeme). IsViable IsSomeTerm (r.lexemes ++ x ∷ [])) same v)

  pub ends_at : (f : Fault) → FirstToken text end (Err f) → Ends
  ends_at f bad = λ next is_next v. no_lexeme text end next f is_next bad

  pub mentioned : (mentions : List Mention) → map pair_of mentions ≡ met.heads → (is_closed met.open_heads && ends_term place) ≡ true → Ends → Mentioned text at mentions end
  mentioned mentions same whole ends =
      let s = reached_sentence whole in
      let outlined : map (seen text) mentions ≡ cells (outline s.0) = sym (map-map (bytes_of text) pair_of (seen text) mentions (λ m. refl)) ∙ ap (map (bytes_of text)) same ∙ ap (λ (m : Met Lexeme). m.heads) r.met_is ∙ ap (λ xs. (met_all xs nothing).heads) (sym s.1) ∙ met_term s.0 in
      let heads = subst (AllByRecursion IsHead) (sym outlined) (heads_of_term s.0 r.lexemes s.1) in
      record {
        lexemes = r.lexemes;
        written = s.0;
        reads = record { scanned = r.scanned; sentence = s; longest = ends };
        spelled = s.1;
        outlined = outlined;
        inside = All-from_recursion (λ m. IsMention text m) mentions (mentions_inside text mentions (subst (AreInText text) (sym same) r.inside) heads);
      }

  pub fault_at_token : (t : Token) → (is_closed met.open_heads && ends_term place) ≡ false → FirstToken text end (Ok t) → step_of place t.kind nested ≡ None → IsFirstFault Plainly IsSomeTerm text at (misplaced t)
  fault_at_token t unfinished found stuck = record {
    lexemes = r.lexemes;
    end = end;
    scanned = r.scanned;
    viable = reached_viable;
    unfinished = reached_unfinished unfinished;
    here = inr (lexeme text t, lexeme_found text end t found, refused t stuck, refl);
  }

  pub fault_in_token : (f : Fault) → (is_closed met.open_heads && ends_term place) ≡ false → FirstToken text end (Err f) → IsFirstFault Plainly IsSomeTerm text at f
  fault_in_token f unfinished bad = record {
    lexemes = r.lexemes;
    end = end;
    scanned = r.scanned;
    viable = reached_viable;
    unfinished = reached_unfinished unfinished;
    here = inl bad;
  }
