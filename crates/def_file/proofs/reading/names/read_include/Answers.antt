use Rattle.std.proofs.Common.{◌≡◌, Err, rules, refl}
use Rattle.std.specs.Prelude.{codes}
use Rattle.def_file.specs.Grammar.{IsIncludeOf}
use Rattle.def_file.proofs.Readings.{read_refused, same_read, same_refused, then_read, first_refused, later_refused}
use Rattle.def_file.proofs.Rules.{word_as_part, names_part, include_to, include_from}
use Rattle.term_lex.proofs.Telling.{Plain, plain}
use Rattle.def_file.proofs.reading.names.read_include.Goals as goal

pub returns-in_err-include : goal.returns-in_err-include
returns-in_err-include c =
    let same : c.from_residual.result ≡ Err c.in_err-include.field-0.0 = search rules in
    read_refused Plain IsIncludeOf (λ include. (include.0, include.1.items)) c.args.text.now c.args.at _ c.in_err-include.field-0.0 same (same_refused plain include_to include_from c.args.text.now c.args.at c.in_err-include.field-0.0 (first_refused plain (word_as_part (codes "include")) names_part refl refl c.args.text.now _ c.in_err-include.field-0.0 c.in_err-include.ensures))

pub returns-in_err-names : goal.returns-in_err-names
returns-in_err-names c =
    let same : c.from_residual-in_err-names.result ≡ Err c.in_err-names.field-0.0 = search rules in
    read_refused Plain IsIncludeOf (λ include. (include.0, include.1.items)) c.args.text.now c.args.at _ c.in_err-names.field-0.0 same (same_refused plain include_to include_from c.args.text.now c.args.at c.in_err-names.field-0.0 (later_refused plain (word_as_part (codes "include")) names_part refl refl c.args.text.now _ c.in_ok-include.ensures c.in_err-names.field-0.0 c.in_err-names.ensures))

pub returns : goal.returns
returns c = same_read include_to include_from c.args.text.now c.args.at (λ xs s. s) (then_read (word_as_part (codes "include")) names_part refl c.args.text.now _ c.in_ok-include.ensures c.in_ok-names.ensures)
