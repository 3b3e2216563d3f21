use Rattle.std.proofs.Common.{◌≡◌, Err, rules, refl}
use Rattle.std.specs.Prelude.{codes}
use Rattle.term_lex.specs.declared.token.TokenKind.TheVariants.{Name}
use Rattle.term_lex.proofs.PlainAnswers.{word_part}
use Rattle.def_file.specs.Grammar.{IsInClass}
use Rattle.def_file.proofs.Readings.{read_refused, same_read, same_refused, then_read, first_refused, later_refused}
use Rattle.def_file.proofs.Rules.{token_part, in_to, in_from}
use Rattle.term_lex.proofs.Telling.{Plain, plain}
use Rattle.def_file.proofs.reading.conditions.read_in.Goals as goal

pub returns-in_err-class_at : goal.returns-in_err-class_at
returns-in_err-class_at c =
    let same : c.from_residual.result ≡ Err c.in_err-class_at.field-0.0 = search rules in
    read_refused Plain IsInClass (λ name. name) c.args.text.now c.args.at _ c.in_err-class_at.field-0.0 same (same_refused plain in_to in_from c.args.text.now c.args.at c.in_err-class_at.field-0.0 (first_refused plain (word_part (codes "in")) (token_part Name) refl refl c.args.text.now _ c.in_err-class_at.field-0.0 c.in_err-class_at.ensures))

pub returns-in_err-class : goal.returns-in_err-class
returns-in_err-class c =
    let same : c.from_residual-in_err-class.result ≡ Err c.in_err-class.field-0.0 = search rules in
    read_refused Plain IsInClass (λ name. name) c.args.text.now c.args.at _ c.in_err-class.field-0.0 same (same_refused plain in_to in_from c.args.text.now c.args.at c.in_err-class.field-0.0 (later_refused plain (word_part (codes "in")) (token_part Name) refl refl c.args.text.now _ c.in_ok-class_at.ensures c.in_err-class.field-0.0 c.in_err-class.ensures))

pub returns : goal.returns
returns c = same_read in_to in_from c.args.text.now c.args.at (λ xs s. s) (then_read (word_part (codes "in")) (token_part Name) refl c.args.text.now _ c.in_ok-class_at.ensures c.in_ok-class.ensures)
