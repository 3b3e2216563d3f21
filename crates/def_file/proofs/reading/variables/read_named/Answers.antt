use Rattle.std.proofs.Common.{◌≡◌, Err, rules, refl}
use Rattle.term_lex.specs.declared.token.TokenKind.TheVariants.{Colon}
use Rattle.term_lex.proofs.PlainAnswers.{kind_part}
use Rattle.def_file.specs.Grammar.{IsNameList}
use Rattle.def_file.proofs.Readings.{read_refused, same_read, same_refused, then_read, first_refused, later_refused}
use Rattle.def_file.proofs.Rules.{names_part, named_to, named_from}
use Rattle.term_lex.proofs.Telling.{Plain, plain}
use Rattle.def_file.proofs.reading.variables.read_named.Goals as goal

pub returns-in_err-names : goal.returns-in_err-names
returns-in_err-names c =
    let same : c.from_residual.result ≡ Err c.in_err-names.field-0.0 = search rules in
    read_refused Plain IsNameList (λ names. names.items) c.args.text.now c.args.at _ c.in_err-names.field-0.0 same (same_refused plain named_to named_from c.args.text.now c.args.at c.in_err-names.field-0.0 (first_refused plain names_part (kind_part Colon) refl refl c.args.text.now _ c.in_err-names.field-0.0 c.in_err-names.ensures))

pub returns-in_err-end : goal.returns-in_err-end
returns-in_err-end c =
    let same : c.from_residual-in_err-end.result ≡ Err c.in_err-end.field-0.0 = search rules in
    read_refused Plain IsNameList (λ names. names.items) c.args.text.now c.args.at _ c.in_err-end.field-0.0 same (same_refused plain named_to named_from c.args.text.now c.args.at c.in_err-end.field-0.0 (later_refused plain names_part (kind_part Colon) refl refl c.args.text.now _ c.in_ok-names.ensures c.in_err-end.field-0.0 c.in_err-end.ensures))

pub returns : goal.returns
returns c = same_read named_to named_from c.args.text.now c.args.at (λ xs s. s) (then_read names_part (kind_part Colon) refl c.args.text.now _ c.in_ok-names.ensures c.in_ok-end.ensures)
