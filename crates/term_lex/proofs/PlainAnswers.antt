-- The answers of single lexemes, and where a reading ends.
use Rattle.std.proofs.Common.{◌≡◌, ℕ, ◌<◌, ◌≤◌, Bool, true, false, List, [], ◌∷◌, inl, refl, sym, subst, Result, Ok, Err, length, arith}
use Rattle.std.specs.Prelude.{IfOk}
use Rattle.term_lex.specs.declared.token.Token.{Token}
use Rattle.term_lex.specs.declared.token.TokenKind.{TokenKind}
use Rattle.term_lex.specs.declared.token.TokenKind.TheVariants.{Name, End}
use Rattle.term_lex.specs.declared.fault.Fault.{Fault}
use Rattle.term_lex.specs.Tokens.{FirstToken}
use Rattle.term_lex.specs.Lexemes.{misplaced}
use Rattle.term_lex.specs.Lexemes.{Lexeme, lexeme, Scans, IsViable, Plainly, IsAnswer}
use Rattle.term_lex.specs.Parts.{IsKind, IsWord, One, Then, BeginsWith, NextIs}
use Rattle.term_lex.proofs.Tokens.{token_within}
use Rattle.term_lex.proofs.Readings.{scans_within, one_answer}
use Rattle.term_lex.proofs.Marks.{Mark, Kind, Word, Fits, disjoint, disjoint_marks}
use Rattle.term_lex.proofs.Parts.{IsPart, one_part}
use Rattle.term_lex.proofs.Answers.{one_ok, one_bad, one_misplaced}

unfoldable pub some_of_kind : TokenKind → Lexeme
some_of_kind k = record { token = record { kind = k; from = 0; to = 0 }; bytes = [] }

pub of_kind : (k : TokenKind) → IsKind k (some_of_kind k)
unfolding some_of_kind
of_kind k = refl

unfoldable pub some_word : List ℕ → Lexeme
some_word w = record { token = record { kind = Name; from = 0; to = 0 }; bytes = w }

pub of_word : (w : List ℕ) → IsWord w (some_word w)
unfolding some_word
of_word w = (refl, refl)

pub kind_part : (k : TokenKind) → IsPart (One (IsKind k)) false (Kind k ∷ []) []
kind_part k = one_part (Kind k) (λ x t. t) (some_of_kind k) (of_kind k)

pub word_part : (w : List ℕ) → IsPart (One (IsWord w)) false (Word w ∷ []) []
word_part w = one_part (Word w) (λ x t. t) (some_word w) (of_word w)

-- an answer at an equal result
pub at_result : (G : List Lexeme → Type 0) (text : List ℕ) (at : ℕ) {r s : Result ℕ Fault} → r ≡ s → IsAnswer G text at s → IsAnswer G text at r
at_result G text at e a = subst (IsAnswer G text at) (sym e) a

module _ (text : List ℕ) (at : ℕ) where
  pub kind_ok : (k : TokenKind) (t : Token) → FirstToken text at (Ok t) → t.kind ≡ k → IsAnswer (One (IsKind k)) text at (Ok t.to)
  kind_ok k t found is = one_ok Plainly text at (some_of_kind k) (of_kind k) t found is

  pub kind_bad : (k : TokenKind) (f : Fault) → FirstToken text at (Err f) → IsAnswer (One (IsKind k)) text at (Err f)
  kind_bad k f bad = one_bad Plainly text at (some_of_kind k) (of_kind k) f bad

  pub kind_misplaced : (k : TokenKind) (t : Token) → FirstToken text at (Ok t) → (t.kind ≡ k → ⊥) → IsAnswer (One (IsKind k)) text at (Err (misplaced t))
  kind_misplaced k t found other = one_misplaced Plainly text at (some_of_kind k) (of_kind k) t (misplaced t) found other refl

  pub word_ok : (w : List ℕ) (t : Token) → FirstToken text at (Ok t) → IsWord w (lexeme text t) → IsAnswer (One (IsWord w)) text at (Ok t.to)
  word_ok w t found is = one_ok Plainly text at (some_word w) (of_word w) t found is

  pub word_bad : (w : List ℕ) (f : Fault) → FirstToken text at (Err f) → IsAnswer (One (IsWord w)) text at (Err f)
  word_bad w f bad = one_bad Plainly text at (some_word w) (of_word w) f bad

  pub word_misplaced : (w : List ℕ) (t : Token) → FirstToken text at (Ok t) → (IsWord w (lexeme text t) → ⊥) → IsAnswer (One (IsWord w)) text at (Err (misplaced t))
  word_misplaced w t found other = one_misplaced Plainly text at (some_word w) (of_word w) t (misplaced t) found other refl

-- a sentence of the second part does not begin as the first one does
pub not_begun : {Test : Lexeme → Type 0} {K : List Lexeme → Type 0} {nk : Bool} {fk mk : List Mark} (mark : Mark) → ((x : Lexeme) → Test x → Fits mark x) → IsPart K nk fk mk → disjoint (mark ∷ []) fk ≡ true → (us : List Lexeme) → K us → BeginsWith Test us → ⊥
not_begun mark fits q e [] k b = b
not_begun {fk = fk} mark fits q e (x ∷ us) k b = disjoint_marks (mark ∷ []) fk x e (inl (fits x b)) (q.begins x (us, k))

-- a first lexeme that passes the test begins a sentence of it and another part
pub then_can : {Test : Lexeme → Type 0} {K : List Lexeme → Type 0} (us : List Lexeme) → K us → (x : Lexeme) → Test x → IsViable (Then (One Test) K) (x ∷ [])
then_can us k x t = (us, (x ∷ [], us, refl, (x, refl, t), k))

-- a reading ends within the text, and further on where its first lexeme is not the end
pub answer_within : (G : List Lexeme → Type 0) (text : List ℕ) (at end : ℕ) → at ≤ length text → IsAnswer G text at (Ok end) → end ≤ length text
answer_within G text at end le (xs, r) = (scans_within text at xs end le r.scanned).1

pub answer_further : {G : List Lexeme → Type 0} {first more : List Mark} → IsPart G false first more → disjoint (Kind End ∷ []) first ≡ true → (text : List ℕ) (at end : ℕ) → at ≤ length text → IsAnswer G text at (Ok end) → at < end
answer_further {G = G} {first = first} p e text at end le (xs, r) = goes xs r.scanned r.sentence where
  goes : (xs : List Lexeme) → Scans text at xs end → G xs → at < end
  goes [] s g = let no = p.empty g in cc
  goes (x ∷ xs) (found, s) g =
      let w = token_within text at (Ok x.token) le found.0 in
      let far : x.token.from < x.token.to = w.advances (λ is_end. disjoint_marks (Kind End ∷ []) first x e (inl is_end) (p.begins x (xs, g))) in
      let later = scans_within text x.token.to xs end w.ends s in
      omega (arith, later.0, w.starts, far)

pub ends_within : (G : List Lexeme → Type 0) (text : List ℕ) (at : ℕ) → at ≤ length text → (r : Result ℕ Fault) → IsAnswer G text at r → IfOk r (λ end. end ≤ length text)
ends_within G text at le (Ok end) a = answer_within G text at end le a
ends_within G text at le (Err f) a = tt

-- a token that is next is not refused
pub kind_next : (k : TokenKind) (text : List ℕ) (at : ℕ) → NextIs (IsKind k) text at → (f : Fault) → IsAnswer (One (IsKind k)) text at (Err f) → ⊥
kind_next k text at (x, found, is) f a =
    let good = kind_ok text at k x.token found.0 is in
    let same : (Err f) ≡ (Ok x.token.to) = one_answer (One (IsKind k)) text at (Err f) (Ok x.token.to) a good in
    cc
