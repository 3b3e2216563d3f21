use Rattle.std.proofs.Common.{◌≡◌, Err, sym, subst}
use Rattle.std.specs.Prelude.{IfErr}
use Rattle.std.proofs.lemmas.Result.{err_from_is_err_and}
use Rattle.def_file.specs.Errors.{IfRefused}
use Rattle.def_file.specs.Views.{file}
use Rattle.def_file.specs.Definitions.{IsFileFault}
use Rattle.def_file.specs.Notations.{notation_of}
use Rattle.def_file.proofs.FileNames.{names_fault}
use Rattle.def_file.proofs.phases.read_named.Goals as goal

pub returns-in_err-named-clause-refused : goal.returns-in_err-named-clause-refused
returns-in_err-named-clause-refused c =
    let p = err_from_is_err_and c.from_residual-in_err-named.result c.from_residual-in_err-named.ensures.1 in
    let same : c.from_residual-in_err-named.result ≡ Err c.in_err-named.field-0.0 = cc (p.1, p.2) in
    subst (λ r. IfErr r (IfRefused (IsFileFault (notation_of c.args.syntax) c.args.text.now))) (sym same) (names_fault (notation_of c.args.syntax) c.args.text.now (file c.in_ok-file.file) c.in_ok-file.ensures.short c.in_ok-file.ensures.reads c.in_err-named.field-0.0 c.in_err-named.ensures.naming)
