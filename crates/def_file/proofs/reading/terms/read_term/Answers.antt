use Rattle.std.proofs.Common.{◌≡◌, Err, rules}
use Rattle.def_file.specs.declared.error.FileError.TheVariants.{Refused}
use Rattle.def_file.specs.Errors.{of_read}
use Rattle.def_file.specs.Grammar.{IsTermFrom}
use Rattle.def_file.proofs.Readings.{read_refused}
use Rattle.def_file.proofs.Tokens.{term_bad, term_refused, term_read}
use Rattle.def_file.specs.Notations.{notation_of}
use Rattle.def_file.proofs.Lawful.{lawful_of}
use Rattle.def_file.proofs.reading.terms.read_term.Goals as goal

pub returns-in_err-first : goal.returns-in_err-first
returns-in_err-first c =
    let same : c.from_residual.result ≡ Err (Refused c.in_err-first.field-0.0) = search rules in
    read_refused (notation_of c.args.syntax).Misplaced (IsTermFrom (notation_of c.args.syntax)) (λ byte. byte) c.args.text.now c.args.at _ (Refused c.in_err-first.field-0.0) same (term_bad c.args.text.now c.args.at (lawful_of c.args.syntax) c.in_err-first.field-0.0 c.in_err-first.ensures.first)

pub returns-in_err-end : goal.returns-in_err-end
returns-in_err-end c =
    let same : c.from_residual-in_err-end.result ≡ Err (of_read c.in_err-end.field-0.0) = search rules in
    read_refused (notation_of c.args.syntax).Misplaced (IsTermFrom (notation_of c.args.syntax)) (λ byte. byte) c.args.text.now c.args.at _ (of_read c.in_err-end.field-0.0) same (term_refused c.args.text.now c.args.at (lawful_of c.args.syntax) c.in_err-end.field-0.0 c.in_err-end.ensures)

pub returns : goal.returns
returns c = term_read c.args.text.now c.args.at (lawful_of c.args.syntax) c.in_ok-first.first c.in_ok-end.end c.in_ok-first.ensures.first c.requires c.in_ok-end.ensures
