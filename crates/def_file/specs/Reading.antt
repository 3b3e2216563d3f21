-- What the readers of the parts of a file answer.
use Rattle.std.specs.Prelude.{ℕ, ◌≤◌, List, length, Result, Ok, Err}
use Rattle.term_lex.specs.declared.fault.Fault.{Fault}
use Rattle.term_lex.specs.Lexemes.{Lexeme, Scans, IsFirstFault, Plainly, IsAnswer}
use Rattle.term_lex.specs.Parts.{Some}
use Rattle.written_terms.specs.Notation.{Notation}
use Rattle.def_file.specs.declared.error.FileError.{FileError}
use Rattle.def_file.specs.Errors.{IfRefused}

-- the lexemes from `at` to `end` are a sentence
abbrev pub IsSentenceAt : (List Lexeme → Type 0) → List ℕ → ℕ → ℕ → Type 0
IsSentenceAt IsSentence text at end = (lexemes : List Lexeme) × Scans text at lexemes end × IsSentence lexemes

-- the part of the text from `at` to `end` is a sentence of the grammar, as long as one can be, and of this form
pub record IsReadAs (Grammar Form : List Lexeme → Type 0) (text : List ℕ) (at end : ℕ) : Type 0 where
  pub answer : IsAnswer Grammar text at (Ok end)
  pub form : IsSentenceAt Form text at end
  pub within : end ≤ length text

-- Misplaced lexemes are told so.
module _ (Misplaced : (List Lexeme → Type 0) → List Lexeme → Lexeme → Fault → Type 0) where
  -- why there is no such part: the first fault of its reading, unless memory ran out
  abbrev pub IsSyntaxRefused : (List Lexeme → Type 0) → List ℕ → ℕ → FileError → Type 0
  IsSyntaxRefused Grammar text at error =
      IfRefused (IsFirstFault (Misplaced Grammar) Grammar text at) error

  -- the answer of a reader that tells what it read, which stands for a tree, and the place after it
  abbrev pub IsReadAnswer : {A V : Type 0} → (V → List Lexeme → Type 0) → (A → V) → List ℕ → ℕ
      → Result (A × ℕ) FileError → Type 0
  IsReadAnswer Grammar tree_of text at (Ok x) = IsReadAs (Some Grammar) (Grammar (tree_of x.0)) text at x.1
  IsReadAnswer Grammar tree_of text at (Err error) = IsSyntaxRefused (Some Grammar) text at error

-- the same of a part that has no terms: every misplaced lexeme is plainly so
abbrev pub IsReadBy : {A V : Type 0} → (V → List Lexeme → Type 0) → (A → V) → List ℕ → ℕ
    → Result (A × ℕ) FileError → Type 0
IsReadBy Grammar tree_of text at answer = IsReadAnswer (λ IsSentence. Plainly) Grammar tree_of text at answer

-- the same of a part with terms: the notation tells the misplaced lexemes
abbrev pub IsReadIn : {A V : Type 0} → Notation → (V → List Lexeme → Type 0) → (A → V) → List ℕ → ℕ
    → Result (A × ℕ) FileError → Type 0
IsReadIn notation Grammar tree_of text at answer =
    IsReadAnswer notation.Misplaced Grammar tree_of text at answer

-- the answer of a reader that tells no more than the place after a part without terms
abbrev pub IsSkip : (List Lexeme → Type 0) → List ℕ → ℕ → Result ℕ FileError → Type 0
IsSkip Grammar text at (Ok end) = IsReadAs Grammar Grammar text at end
IsSkip Grammar text at (Err error) = IsSyntaxRefused (λ IsSentence. Plainly) Grammar text at error
