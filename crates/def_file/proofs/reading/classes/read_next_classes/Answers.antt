use Rattle.std.proofs.Common.{◌≡◌, Err, rules, refl, map}
use Rattle.term_lex.specs.declared.token.TokenKind.TheVariants.{Semicolon}
use Rattle.term_lex.specs.Parts.{IsKind, Led}
use Rattle.term_lex.proofs.PlainAnswers.{kind_part}
use Rattle.term_lex.proofs.ListAnswers.{led_to, led_from}
use Rattle.def_file.specs.Views.{class_item}
use Rattle.def_file.proofs.Readings.{read_refused, same_read, same_refused, then_read, first_refused, later_refused}
use Rattle.def_file.proofs.Rules.{ClassItems, class_items_part}
use Rattle.term_lex.proofs.Telling.{Plain, plain}
use Rattle.def_file.proofs.reading.classes.read_next_classes.Goals as goal

pub returns-in_err-items_at : goal.returns-in_err-items_at
returns-in_err-items_at c =
    let same : c.from_residual.result ≡ Err c.in_err-items_at.field-0.0 = search rules in
    read_refused Plain (Led (IsKind Semicolon) ClassItems) (λ v. map class_item v.items) c.args.text.now c.args.at _ c.in_err-items_at.field-0.0 same (same_refused plain led_to led_from c.args.text.now c.args.at c.in_err-items_at.field-0.0 (first_refused plain (kind_part Semicolon) class_items_part refl refl c.args.text.now _ c.in_err-items_at.field-0.0 c.in_err-items_at.ensures))

pub returns-in_err-items : goal.returns-in_err-items
returns-in_err-items c =
    let same : c.from_residual-in_err-items.result ≡ Err c.in_err-items.field-0.0 = search rules in
    read_refused Plain (Led (IsKind Semicolon) ClassItems) (λ v. map class_item v.items) c.args.text.now c.args.at _ c.in_err-items.field-0.0 same (same_refused plain led_to led_from c.args.text.now c.args.at c.in_err-items.field-0.0 (later_refused plain (kind_part Semicolon) class_items_part refl refl c.args.text.now _ c.in_ok-items_at.ensures c.in_err-items.field-0.0 c.in_err-items.ensures))

pub returns : goal.returns
returns c = same_read led_to led_from c.args.text.now c.args.at (λ xs s. s) (then_read (kind_part Semicolon) class_items_part refl c.args.text.now _ c.in_ok-items_at.ensures c.in_ok-items.ensures)
