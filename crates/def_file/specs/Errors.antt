-- The errors of a file's reader, and what it answers where memory may have run out.
use Rattle.std.specs.Prelude.{◌≡◌, ℕ, Result, Ok, Err}
use Rattle.term_lex.specs.declared.token.Token.{Token}
use Rattle.term_lex.specs.declared.fault.FaultKind.TheVariants.{Twice}
use Rattle.term_lex.specs.declared.fault.Fault.{Fault}
use Rattle.written_terms.specs.declared.error.ReadError.{ReadError}
use Rattle.written_terms.specs.declared.error.ReadError.TheVariants as read
use Rattle.symbol_table.specs.declared.error.SymbolError.{SymbolError}
use Rattle.symbol_table.specs.declared.error.SymbolError.TheVariants as symbol
use Rattle.def_file.specs.declared.error.FileError.{FileError}
use Rattle.def_file.specs.declared.error.FileError.TheVariants.{Refused, NoMemory}

-- the error of a term's reader
abbrev pub of_read : ReadError → FileError
of_read (read.Refused fault) = Refused fault
of_read read.NoMemory = NoMemory

-- P of the fault, where there is one
abbrev pub IfRefused : (Fault → Type 0) → FileError → Type 0
IfRefused P (Refused fault) = P fault
IfRefused P NoMemory = Unit {0}

-- the answer is right, unless memory ran out
abbrev pub AnswersRight : {A : Type 0} → (Result A Fault → Type 0) → Result A FileError → Type 0
AnswersRight IsRight (Ok x) = IsRight (Ok x)
AnswersRight IsRight (Err e) = IfRefused (λ fault. IsRight (Err fault)) e

-- the answer is this one, unless memory ran out
abbrev pub AnswersAs : {A : Type 0} → Result A Fault → Result A FileError → Type 0
AnswersAs answer (Ok x) = answer ≡ Ok x
AnswersAs answer (Err e) = IfRefused (λ fault. answer ≡ Err fault) e

-- the error of a name that is refused, which stands at the byte
abbrev pub refused_at : SymbolError → ℕ → FileError
refused_at (symbol.Refused kind) byte = Refused (record { kind = kind; byte = byte })
refused_at symbol.NoMemory byte = NoMemory

-- the error of a declaration: at its name where this is declared already, else at its arity
abbrev pub declaration_error : SymbolError → Token → Token → FileError
declaration_error (symbol.Refused Twice) name arity = Refused (record { kind = Twice; byte = name.from })
declaration_error error name arity = refused_at error arity.from
