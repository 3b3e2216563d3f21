-- Reading by a grammar, which says what lists of lexemes are its sentences.
use Rattle.std.specs.Prelude.{◌≡◌, ℕ, List, [], ◌∷◌, ◌++◌, Result, Ok, Err, ◌⊎◌, slice_range}
use Rattle.term_lex.specs.declared.token.Token.{Token}
use Rattle.term_lex.specs.declared.token.TokenKind.{TokenKind}
use Rattle.term_lex.specs.declared.token.TokenKind.TheVariants.{End}
use Rattle.term_lex.specs.declared.fault.Fault.{Fault}
use Rattle.term_lex.specs.declared.fault.FaultKind.{FaultKind}
use Rattle.term_lex.specs.declared.fault.FaultKind.TheVariants.{Expected, Unended}
use Rattle.term_lex.specs.Tokens.{FirstToken}

-- a token and the bytes that it is
pub record Lexeme : Type 0 where
  pub token : Token
  pub bytes : List ℕ

-- the lexeme of a token in a text
abbrev pub lexeme : List ℕ → Token → Lexeme
lexeme text t = record { token = t; bytes = slice_range text t.from t.to }

-- the first lexeme of a text from `at` on, or the fault of its token
abbrev pub FirstLexeme : List ℕ → ℕ → Result Lexeme Fault → Type 0
FirstLexeme text at (Ok x) = FirstToken text at (Ok x.token) × (x ≡ lexeme text x.token)
FirstLexeme text at (Err f) = FirstToken text at (Err f)

-- the lexemes stand one after another in the text from `at` on, the last one ends at `end`
abbrev pub Scans : List ℕ → ℕ → List Lexeme → ℕ → Type 0
Scans text at [] end = end ≡ at
Scans text at (x ∷ xs) end = FirstLexeme text at (Ok x) × Scans text x.token.to xs end

-- some sentence begins with the lexemes
abbrev pub IsViable : (List Lexeme → Type 0) → List Lexeme → Type 0
IsViable IsSentence lexemes = (more : List Lexeme) × IsSentence (lexemes ++ more)

-- the text from `at` to `end` is a sentence, which takes as many lexemes as it can
pub record Reads (IsSentence : List Lexeme → Type 0) (text : List ℕ) (at : ℕ) (lexemes : List Lexeme)
    (end : ℕ) : Type 0 where
  pub scanned : Scans text at lexemes end
  pub sentence : IsSentence lexemes
  pub longest : (next : Lexeme) → FirstLexeme text end (Ok next)
      → ¬ (IsViable IsSentence (lexemes ++ next ∷ []))

-- The first fault from `at` on: sentences begin with the lexemes before it, which are none yet, and the next
-- token is bad or no sentence begins with it too.
-- Misplaced says which fault a lexeme is that cannot stand behind those before it.
pub record IsFirstFault (Misplaced : List Lexeme → Lexeme → Fault → Type 0)
    (IsSentence : List Lexeme → Type 0) (text : List ℕ) (at : ℕ) (fault : Fault) : Type 0 where
  pub lexemes : List Lexeme
  pub end : ℕ
  pub scanned : Scans text at lexemes end
  pub viable : IsViable IsSentence lexemes
  pub unfinished : ¬ (IsSentence lexemes)
  pub here : FirstLexeme text end (Err fault)
      ⊎ ((next : Lexeme) × FirstLexeme text end (Ok next) × (IsViable IsSentence (lexemes ++ next ∷ []) → ⊥)
      × Misplaced lexemes next fault)

-- the answer of a reader: where the sentence ends, or the first fault
abbrev pub IsAnswerBy : (List Lexeme → Lexeme → Fault → Type 0) → (List Lexeme → Type 0)
    → List ℕ → ℕ → Result ℕ Fault → Type 0
IsAnswerBy Misplaced IsSentence text at (Ok end) =
    (lexemes : List Lexeme) × Reads IsSentence text at lexemes end
IsAnswerBy Misplaced IsSentence text at (Err fault) = IsFirstFault Misplaced IsSentence text at fault

-- the fault of a token that cannot stand in its place: the end of the text is Unended, every other token
-- Expected
abbrev pub misplaced_kind : TokenKind → FaultKind
misplaced_kind End = Unended
misplaced_kind kind = Expected kind

-- that fault, at the first byte of the token
abbrev pub misplaced : Token → Fault
misplaced t = record { kind = misplaced_kind t.kind; byte = t.from }

-- a lexeme is misplaced in this way, whatever stands before it
abbrev pub Plainly : List Lexeme → Lexeme → Fault → Type 0
Plainly before x fault = fault ≡ misplaced x.token

-- the same, where that is the fault of a misplaced lexeme
abbrev pub IsAnswer : (List Lexeme → Type 0) → List ℕ → ℕ → Result ℕ Fault → Type 0
IsAnswer IsSentence text at answer = IsAnswerBy Plainly IsSentence text at answer
