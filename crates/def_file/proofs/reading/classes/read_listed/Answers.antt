use Rattle.std.proofs.Common.{◌≡◌, Err, rules, refl, map}
use Rattle.std.specs.Prelude.{codes}
use Rattle.term_lex.proofs.PlainAnswers.{word_part}
use Rattle.def_file.specs.Grammar.{AreListed}
use Rattle.def_file.specs.Views.{class_item}
use Rattle.def_file.proofs.Readings.{read_refused, same_read, same_refused, then_read, first_refused, later_refused}
use Rattle.def_file.proofs.Rules.{class_item_part, more_classes_part, listed_tail, listed_to, listed_from}
use Rattle.term_lex.proofs.Telling.{Plain, plain}
use Rattle.def_file.proofs.reading.classes.read_listed.Goals as goal

pub returns-in_err-first_at : goal.returns-in_err-first_at
returns-in_err-first_at c =
    let same : c.from_residual.result ≡ Err c.in_err-first_at.field-0.0 = search rules in
    read_refused Plain AreListed (λ r. (class_item r.0, map class_item r.1.items)) c.args.text.now c.args.at _ c.in_err-first_at.field-0.0 same (same_refused plain listed_to listed_from c.args.text.now c.args.at c.in_err-first_at.field-0.0 (first_refused plain (word_part (codes "Classes")) listed_tail refl refl c.args.text.now _ c.in_err-first_at.field-0.0 c.in_err-first_at.ensures))

pub returns-in_err-first : goal.returns-in_err-first
returns-in_err-first c =
    let same : c.from_residual-in_err-first.result ≡ Err c.in_err-first.field-0.0 = search rules in
    read_refused Plain AreListed (λ r. (class_item r.0, map class_item r.1.items)) c.args.text.now c.args.at _ c.in_err-first.field-0.0 same (same_refused plain listed_to listed_from c.args.text.now c.args.at c.in_err-first.field-0.0 (later_refused plain (word_part (codes "Classes")) listed_tail refl refl c.args.text.now _ c.in_ok-first_at.ensures c.in_err-first.field-0.0 (first_refused plain class_item_part more_classes_part refl refl c.args.text.now _ c.in_err-first.field-0.0 c.in_err-first.ensures)))

pub returns-in_err-more : goal.returns-in_err-more
returns-in_err-more c =
    let same : c.from_residual-in_err-more.result ≡ Err c.in_err-more.field-0.0 = search rules in
    read_refused Plain AreListed (λ r. (class_item r.0, map class_item r.1.items)) c.args.text.now c.args.at _ c.in_err-more.field-0.0 same (same_refused plain listed_to listed_from c.args.text.now c.args.at c.in_err-more.field-0.0 (later_refused plain (word_part (codes "Classes")) listed_tail refl refl c.args.text.now _ c.in_ok-first_at.ensures c.in_err-more.field-0.0 (later_refused plain class_item_part more_classes_part refl refl c.args.text.now _ c.in_ok-first.ensures c.in_err-more.field-0.0 c.in_err-more.ensures)))

pub returns : goal.returns
returns c = same_read listed_to listed_from c.args.text.now c.args.at (λ xs s. s) (then_read (word_part (codes "Classes")) listed_tail refl c.args.text.now _ c.in_ok-first_at.ensures (then_read class_item_part more_classes_part refl c.args.text.now _ c.in_ok-first.ensures c.in_ok-more.ensures))
