use Rattle.std.proofs.Common.{◌≡◌, ℕ, List, inr, refl, sym, ap, subst}
use Rattle.std.specs.Prelude.{IfErr, Result, Err}
use Rattle.std.proofs.lemmas.Result.{err_from_is_err_and}
use Rattle.term_lex.specs.declared.syntax.Syntax.{Syntax}
use Rattle.symbol_table.specs.Reading.{read_classes}
use Rattle.def_file.specs.declared.error.FileError.{FileError}
use Rattle.def_file.specs.declared.error.FileError.TheVariants.{Refused, NoMemory}
use Rattle.def_file.specs.AsRead.{ReadDefinitions, definitions_read}
use Rattle.def_file.specs.Definitions.{Says}
use Rattle.def_file.specs.Errors.{IfRefused}
use Rattle.def_file.specs.Notations.{notation_of}
use Rattle.def_file.proofs.Lawful.{lawful_of}
use Rattle.qualifiers.specs.AsRead.{IsExpanding}
use Rattle.qualifiers.proofs.SaysProper.{says_proper}
use Rattle.ei_program.specs.declared.definitions.Equations.{Equations}
use Rattle.ei_program.specs.Definitions.{RefusesFile}
use Rattle.ei_program.proofs.FileEquations.{truths_known}
use Rattle.ei_program.proofs.definitions.read_equations.Goals as goal

-- a file that can be read, but not expanded, is refused
unexpanded : (syntax : Syntax) (text : List ℕ) (read : ReadDefinitions) → Says (notation_of syntax) text read → (error : FileError) → IfRefused (λ fault. IsExpanding read (Err fault)) error → IfRefused (RefusesFile syntax text) error
unexpanded syntax text read says (Refused fault) refused = inr (record { read = read; says = says; refused = refused })
unexpanded syntax text read says NoMemory none = tt

pub expand-requires-clause-proper : goal.expand-requires-clause-proper
expand-requires-clause-proper c =
    says_proper (lawful_of c.args.syntax) c.args.text.now (definitions_read c.in_ok-definitions.definitions) c.in_ok-definitions.ensures.answer

pub returns-in_err-rules-clause-refused : goal.returns-in_err-rules-clause-refused
returns-in_err-rules-clause-refused c =
    let p = err_from_is_err_and c.from_residual-in_err-rules.result c.from_residual-in_err-rules.ensures.1 in
    let same : c.from_residual-in_err-rules.result ≡ Err c.in_err-rules.field-0.0 = cc (p.1, p.2) in
    subst (λ (r : Result Equations FileError). IfErr r (IfRefused (RefusesFile c.args.syntax c.args.text.now))) (sym same)
    (unexpanded c.args.syntax c.args.text.now (definitions_read c.in_ok-definitions.definitions) c.in_ok-definitions.ensures.answer c.in_err-rules.field-0.0 c.in_err-rules.ensures.answer)

pub returns-clause-ok : goal.returns-clause-ok
returns-clause-ok c =
    let d = c.in_ok-definitions.definitions in
    record {
      read = definitions_read d;
      says = c.in_ok-definitions.ensures.answer;
      expansion = c.in_ok-rules.ensures.answer;
      names = refl;
      classes = ap (read_classes d.symbols) c.in_ok-rules.ensures.classes;
    }

pub returns-clause-usable : goal.returns-clause-usable
returns-clause-usable c =
    let d = c.in_ok-definitions.definitions in
    record {
      live = c.in_ok-rules.ensures.live;
      truths = truths_known (notation_of c.args.syntax) (lawful_of c.args.syntax) c.args.text.now (definitions_read d) c.in_ok-definitions.ensures.answer d.symbols c.in_ok-rules.rules refl c.in_ok-rules.ensures.answer;
    }
