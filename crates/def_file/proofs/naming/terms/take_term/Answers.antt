use Rattle.std.proofs.Common.{◌≡◌, ℕ, List, [], ◌∷◌, Err, inl, rules}
use Rattle.written_terms.specs.Notation.{Notation}
use Rattle.written_terms.specs.Refusing.{RefusesPattern}
use Rattle.written_terms.specs.Answering as terms
use Rattle.written_terms.specs.declared.error.ReadError.{ReadError}
use Rattle.written_terms.specs.declared.error.ReadError.TheVariants.{Refused, NoMemory}
use Rattle.def_file.specs.Errors.{IfRefused, of_read}
use Rattle.def_file.specs.Names.{Term, Known, RefusesFirst}
use Rattle.def_file.specs.Naming.{knowing}
use Rattle.def_file.specs.Notations.{notation_of}
use Rattle.def_file.proofs.Namings.{taking_refused}
use Rattle.def_file.proofs.Lasting.{taken_later}
use Rattle.def_file.proofs.naming.terms.take_term.Goals as goal

-- a term that is refused is the first place that is
refused_term : (notation : Notation) (text : List ℕ) (known : Known) (byte : ℕ) (error : ReadError)
    → terms.IfRefused (RefusesPattern notation known.table known.variables text byte) error
    → IfRefused (RefusesFirst notation text known (Term byte ∷ [])) (of_read error)
refused_term notation text known byte (Refused fault) h = inl h
refused_term notation text known byte NoMemory h = tt

pub returns-in_err-pattern-clause-taking : goal.returns-in_err-pattern-clause-taking
returns-in_err-pattern-clause-taking c = λ operations.
    let same : c.from_residual.result ≡ Err (of_read c.in_err-pattern.field-0.0) = search rules in
    let old = knowing c.args.symbols.now c.args.listed.now operations in
    taking_refused (notation_of c.args.syntax) c.args.text.now old (knowing c.read_pattern.new.symbols c.args.listed.now operations) (Term c.args.byte ∷ []) c.from_residual.result (of_read c.in_err-pattern.field-0.0) same
    (refused_term (notation_of c.args.syntax) c.args.text.now old c.args.byte c.in_err-pattern.field-0.0 c.in_err-pattern.ensures.answer)

-- the pattern is read in each table that keeps this one
pub returns-clause-pattern : goal.returns-clause-pattern
returns-clause-pattern c = λ later operations k.
    taken_later (notation_of c.args.syntax) c.args.text.now c.args.listed.now operations c.args.symbols.now c.read_pattern.new.symbols later
    c.in_ok-pattern.ensures.keeps k c.args.byte c.in_ok-pattern.pattern c.in_ok-pattern.field-0-1
    c.in_ok-pattern.ensures.answer c.in_ok-pattern.ensures.live
