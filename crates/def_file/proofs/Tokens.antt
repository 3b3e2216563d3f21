-- The single tokens and terms of a file.
use Rattle.std.proofs.Common.{◌≡◌, ℕ, ◌≤◌, List, [], ◌∷◌, length, refl, ap, subst, inl, Ok, Err}
use Rattle.term_lex.specs.declared.token.Token.{Token}
use Rattle.term_lex.specs.declared.token.TokenKind.{TokenKind}
use Rattle.term_lex.specs.declared.fault.Fault.{Fault}
use Rattle.term_lex.specs.Tokens.{FirstToken}
use Rattle.term_lex.specs.Lexemes.{Lexeme, lexeme, Scans, IsAnswer, misplaced}
use Rattle.term_lex.specs.Parts.{IsWord, One, BeginsWith, Some, NextIs}
use Rattle.term_lex.proofs.Readings.{lexeme_found, one_lexeme, no_lexeme}
use Rattle.term_lex.proofs.PlainAnswers.{kind_ok, kind_bad, kind_misplaced, word_ok, word_bad, word_misplaced, answer_within}
use Rattle.term_lex.proofs.Telling.{plain, IsAnswerIn, same_answer}
use Rattle.written_terms.specs.Notation.{Notation, IsSomeTerm}
use Rattle.written_terms.proofs.Notations.{IsLawful}
use Rattle.written_terms.specs.Answering as terms
use Rattle.written_terms.specs.declared.error.ReadError.{ReadError}
use Rattle.written_terms.specs.declared.error.ReadError.TheVariants.{Refused, NoMemory}
use Rattle.def_file.specs.Errors.{of_read}
use Rattle.def_file.specs.Grammar.{IsToken, IsWordAs, IsTermFrom}
use Rattle.def_file.specs.Reading.{IsReadAs, IsSyntaxRefused}
use Rattle.def_file.proofs.Rules.{token_to, token_from, word_to, word_from, term_to, term_from}

module _ (text : List ℕ) (at : ℕ) where
  -- the next lexeme is that of the next token
  pub next_passes : (Test : Lexeme → Type 0) (t : Token) → FirstToken text at (Ok t) → NextIs Test text at → Test (lexeme text t)
  next_passes Test t first (x, found, is) = subst Test (one_lexeme text at x (lexeme text t) found (lexeme_found text at t first)) is

  pub next_bad : (Test : Lexeme → Type 0) (f : Fault) → FirstToken text at (Err f) → NextIs Test text at → ⊥
  next_bad Test f bad (x, found, is) = no_lexeme text at x f found bad

  pub next_found : (Test : Lexeme → Type 0) (t : Token) → FirstToken text at (Ok t) → Test (lexeme text t) → NextIs Test text at
  next_found Test t first is = (lexeme text t, lexeme_found text at t first, is)

  -- a lexeme that passes a test
  pub one_read : (Test : Lexeme → Type 0) (t : Token) → FirstToken text at (Ok t) → Test (lexeme text t) → t.to ≤ length text → IsAnswer (One Test) text at (Ok t.to) → IsReadAs (One Test) (One Test) text at t.to
  one_read Test t first is within answer = record {
    answer = answer;
    form = (lexeme text t ∷ [], (lexeme_found text at t first, refl), (lexeme text t, refl, is));
    within = within;
  }

  pub token_read : (k : TokenKind) (t : Token) → FirstToken text at (Ok t) → t.kind ≡ k → t.to ≤ length text → IsReadAs (Some (IsToken k)) (IsToken k t) text at t.to
  token_read k t first is within = record {
    answer = same_answer plain token_to token_from text at (Ok t.to) (kind_ok text at k t first is);
    form = (lexeme text t ∷ [], (lexeme_found text at t first, refl), (lexeme text t, refl, (is, refl)));
    within = within;
  }

  pub token_bad : (k : TokenKind) (f : Fault) → FirstToken text at (Err f) → IsAnswer (Some (IsToken k)) text at (Err f)
  token_bad k f bad = same_answer plain token_to token_from text at (Err f) (kind_bad text at k f bad)

  pub token_misplaced : (k : TokenKind) (t : Token) → FirstToken text at (Ok t) → (t.kind ≡ k → ⊥) → IsAnswer (Some (IsToken k)) text at (Err (misplaced t))
  token_misplaced k t first other = same_answer plain token_to token_from text at (Err (misplaced t)) (kind_misplaced text at k t first other)

  -- a token that is a word
  pub word_read : (w : List ℕ) (t : Token) → FirstToken text at (Ok t) → IsWord w (lexeme text t) → t.to ≤ length text → IsReadAs (Some (IsWordAs w)) (IsWordAs w t) text at t.to
  word_read w t first is within = record {
    answer = same_answer plain (word_to w) (word_from w) text at (Ok t.to) (word_ok text at w t first is);
    form = (lexeme text t ∷ [], (lexeme_found text at t first, refl), (lexeme text t, refl, (is, refl)));
    within = within;
  }

  pub word_as_bad : (w : List ℕ) (f : Fault) → FirstToken text at (Err f) → IsAnswer (Some (IsWordAs w)) text at (Err f)
  word_as_bad w f bad = same_answer plain (word_to w) (word_from w) text at (Err f) (word_bad text at w f bad)

  pub word_as_misplaced : (w : List ℕ) (t : Token) → FirstToken text at (Ok t) → (IsWord w (lexeme text t) → ⊥) → IsAnswer (Some (IsWordAs w)) text at (Err (misplaced t))
  word_as_misplaced w t first other = same_answer plain (word_to w) (word_from w) text at (Err (misplaced t)) (word_misplaced text at w t first other)

  -- terms are written in a lawful notation
  module _ {notation : Notation} (laws : IsLawful notation) where
    -- a term whose first token is bad
    pub term_bad : (f : Fault) → FirstToken text at (Err f) → IsAnswerIn notation.Misplaced (Some (IsTermFrom notation)) text at (Err f)
    term_bad f bad = same_answer laws.telling (term_to laws) (term_from laws) text at (Err f) (record { lexemes = []; end = at; scanned = refl; viable = (laws.part.some, laws.part.some_is); unfinished = no_term; here = inl bad }) where
      no_term : IsSomeTerm notation [] → ⊥
      no_term s = let no = laws.part.empty s in cc

    pub term_refused : (e : ReadError) → terms.IfRefused (λ fault. IsAnswerIn notation.Misplaced (IsSomeTerm notation) text at (Err fault)) e → IsSyntaxRefused notation.Misplaced (Some (IsTermFrom notation)) text at (of_read e)
    term_refused (Refused f) a = same_answer laws.telling (term_to laws) (term_from laws) text at (Err f) a
    term_refused NoMemory a = tt

    pub term_read : (t : Token) (end : ℕ) → FirstToken text at (Ok t) → at ≤ length text → IsAnswer (IsSomeTerm notation) text at (Ok end) → IsReadAs (Some (IsTermFrom notation)) (IsTermFrom notation t.from) text at end
    term_read t end first le (xs, r) = record {
      answer = same_answer plain (term_to laws) (term_from laws) text at (Ok end) (xs, r);
      form = (xs, r.scanned, (begins xs r.scanned r.sentence, r.sentence));
      within = answer_within (IsSomeTerm notation) text at end le (xs, r);
    } where
      begins : (xs : List Lexeme) → Scans text at xs end → IsSomeTerm notation xs → BeginsWith (λ x. x.token.from ≡ t.from) xs
      begins [] s g = let no = laws.part.empty g in cc
      begins (x ∷ xs) (found, s) g = ap (λ (y : Lexeme). y.token.from) (one_lexeme text at x (lexeme text t) found (lexeme_found text at t first))
