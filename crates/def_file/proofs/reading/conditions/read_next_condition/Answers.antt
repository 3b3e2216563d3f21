use Rattle.std.proofs.Common.{◌≡◌, Err, rules, refl}
use Rattle.term_lex.specs.declared.token.TokenKind.TheVariants.{Comma}
use Rattle.term_lex.specs.Parts.{IsKind, Led}
use Rattle.term_lex.proofs.PlainAnswers.{kind_part}
use Rattle.term_lex.proofs.ListAnswers.{led_to, led_from}
use Rattle.def_file.specs.Grammar.{IsCondition}
use Rattle.def_file.specs.Views.{condition}
use Rattle.def_file.proofs.Readings.{read_refused, lifted_refused, same_read, same_refused, then_read, first_refused, later_refused}
use Rattle.def_file.proofs.Rules.{condition_part}
use Rattle.def_file.specs.Notations.{notation_of}
use Rattle.def_file.proofs.Lawful.{lawful_of}
use Rattle.def_file.proofs.WithoutTerms.{kind_never}
use Rattle.def_file.proofs.reading.conditions.read_next_condition.Goals as goal

pub returns-in_err-condition_at : goal.returns-in_err-condition_at
returns-in_err-condition_at c =
    let same : c.from_residual.result ≡ Err c.in_err-condition_at.field-0.0 = search rules in
    read_refused (notation_of c.args.syntax).Misplaced (Led (IsKind Comma) (IsCondition (notation_of c.args.syntax))) condition c.args.text.now c.args.at _ c.in_err-condition_at.field-0.0 same (same_refused (lawful_of c.args.syntax).telling led_to led_from c.args.text.now c.args.at c.in_err-condition_at.field-0.0 (first_refused (lawful_of c.args.syntax).telling (kind_part Comma) (condition_part (lawful_of c.args.syntax)) refl refl c.args.text.now _ c.in_err-condition_at.field-0.0 (lifted_refused (lawful_of c.args.syntax).telling (kind_never Comma refl) _ _ c.in_err-condition_at.field-0.0 c.in_err-condition_at.ensures)))

pub returns-in_err-condition : goal.returns-in_err-condition
returns-in_err-condition c =
    let same : c.from_residual-in_err-condition.result ≡ Err c.in_err-condition.field-0.0 = search rules in
    read_refused (notation_of c.args.syntax).Misplaced (Led (IsKind Comma) (IsCondition (notation_of c.args.syntax))) condition c.args.text.now c.args.at _ c.in_err-condition.field-0.0 same (same_refused (lawful_of c.args.syntax).telling led_to led_from c.args.text.now c.args.at c.in_err-condition.field-0.0 (later_refused (lawful_of c.args.syntax).telling (kind_part Comma) (condition_part (lawful_of c.args.syntax)) refl refl c.args.text.now _ c.in_ok-condition_at.ensures c.in_err-condition.field-0.0 c.in_err-condition.ensures))

pub returns : goal.returns
returns c = same_read led_to led_from c.args.text.now c.args.at (λ xs s. s) (then_read (kind_part Comma) (condition_part (lawful_of c.args.syntax)) refl c.args.text.now _ c.in_ok-condition_at.ensures c.in_ok-condition.ensures)
