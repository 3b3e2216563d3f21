-- What a reader answered, where memory may have run out.
use Rattle.std.specs.Prelude.{◌≡◌, ℕ, Result, Ok, Err}
use Rattle.term_lex.specs.declared.fault.Fault.{Fault}
use Rattle.written_terms.specs.declared.error.ReadError.{ReadError}
use Rattle.written_terms.specs.declared.error.ReadError.TheVariants.{Refused, NoMemory}

-- P of the fault, where there is one
abbrev pub IfRefused : (Fault → Type 0) → ReadError → Type 0
IfRefused P (Refused fault) = P fault
IfRefused P NoMemory = Unit {0}

-- the answer is right, unless memory ran out
abbrev pub AnswersRight : {A : Type 0} → (Result A Fault → Type 0) → Result A ReadError → Type 0
AnswersRight IsRight (Ok x) = IsRight (Ok x)
AnswersRight IsRight (Err e) = IfRefused (λ fault. IsRight (Err fault)) e

-- the answer is this one, unless memory ran out
abbrev pub AnswersAs : {A : Type 0} → Result A Fault → Result A ReadError → Type 0
AnswersAs answer (Ok x) = answer ≡ Ok x
AnswersAs answer (Err e) = IfRefused (λ fault. answer ≡ Err fault) e

-- the answer with its term, or its pattern, as it is read
abbrev pub as_read : {A B E : Type 0} → (A → B) → Result (A × ℕ) E → Result (B × ℕ) E
as_read read (Ok x) = Ok (read x.0, x.1)
as_read read (Err e) = Err e
