use Rattle.std.proofs.Common.{◌≡◌, Err, rules, refl}
use Rattle.term_lex.specs.declared.token.TokenKind.TheVariants.{Name, Colon}
use Rattle.term_lex.proofs.Parts.{then_part}
use Rattle.term_lex.proofs.PlainAnswers.{kind_part}
use Rattle.def_file.specs.Grammar.{IsClassItem}
use Rattle.def_file.specs.Views.{class_item}
use Rattle.def_file.proofs.Readings.{read_refused, same_read, same_refused, then_read, first_refused, later_refused}
use Rattle.def_file.proofs.Rules.{token_part, members_part, class_item_to, class_item_from}
use Rattle.term_lex.proofs.Telling.{Plain, plain}
use Rattle.def_file.proofs.reading.classes.read_class_item.Goals as goal

pub returns-in_err-name : goal.returns-in_err-name
returns-in_err-name c =
    let same : c.from_residual.result ≡ Err c.in_err-name.field-0.0 = search rules in
    read_refused Plain IsClassItem class_item c.args.text.now c.args.at _ c.in_err-name.field-0.0 same (same_refused plain class_item_to class_item_from c.args.text.now c.args.at c.in_err-name.field-0.0 (first_refused plain (token_part Name) (then_part (kind_part Colon) members_part refl) refl refl c.args.text.now _ c.in_err-name.field-0.0 c.in_err-name.ensures))

pub returns-in_err-members_at : goal.returns-in_err-members_at
returns-in_err-members_at c =
    let same : c.from_residual-in_err-members_at.result ≡ Err c.in_err-members_at.field-0.0 = search rules in
    read_refused Plain IsClassItem class_item c.args.text.now c.args.at _ c.in_err-members_at.field-0.0 same (same_refused plain class_item_to class_item_from c.args.text.now c.args.at c.in_err-members_at.field-0.0 (later_refused plain (token_part Name) (then_part (kind_part Colon) members_part refl) refl refl c.args.text.now _ c.in_ok-name.ensures c.in_err-members_at.field-0.0 (first_refused plain (kind_part Colon) members_part refl refl c.args.text.now _ c.in_err-members_at.field-0.0 c.in_err-members_at.ensures)))

pub returns-in_err-members : goal.returns-in_err-members
returns-in_err-members c =
    let same : c.from_residual-in_err-members.result ≡ Err c.in_err-members.field-0.0 = search rules in
    read_refused Plain IsClassItem class_item c.args.text.now c.args.at _ c.in_err-members.field-0.0 same (same_refused plain class_item_to class_item_from c.args.text.now c.args.at c.in_err-members.field-0.0 (later_refused plain (token_part Name) (then_part (kind_part Colon) members_part refl) refl refl c.args.text.now _ c.in_ok-name.ensures c.in_err-members.field-0.0 (later_refused plain (kind_part Colon) members_part refl refl c.args.text.now _ c.in_ok-members_at.ensures c.in_err-members.field-0.0 c.in_err-members.ensures)))

pub returns : goal.returns
returns c = same_read class_item_to class_item_from c.args.text.now c.args.at (λ xs s. s) (then_read (token_part Name) (then_part (kind_part Colon) members_part refl) refl c.args.text.now _ c.in_ok-name.ensures (then_read (kind_part Colon) members_part refl c.args.text.now _ c.in_ok-members_at.ensures c.in_ok-members.ensures))
