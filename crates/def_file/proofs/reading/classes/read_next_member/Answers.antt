use Rattle.std.proofs.Common.{◌≡◌, Err, rules, refl}
use Rattle.term_lex.specs.declared.token.TokenKind.TheVariants.{Comma}
use Rattle.term_lex.specs.Parts.{IsKind, Led}
use Rattle.term_lex.proofs.PlainAnswers.{kind_part}
use Rattle.term_lex.proofs.ListAnswers.{led_to, led_from}
use Rattle.def_file.specs.Grammar.{IsMember}
use Rattle.def_file.proofs.Readings.{read_refused, same_read, same_refused, then_read, first_refused, later_refused}
use Rattle.def_file.proofs.Rules.{member_part}
use Rattle.term_lex.proofs.Telling.{Plain, plain}
use Rattle.def_file.proofs.reading.classes.read_next_member.Goals as goal

pub returns-in_err-member_at : goal.returns-in_err-member_at
returns-in_err-member_at c =
    let same : c.from_residual.result ≡ Err c.in_err-member_at.field-0.0 = search rules in
    read_refused Plain (Led (IsKind Comma) IsMember) (λ member. member) c.args.text.now c.args.at _ c.in_err-member_at.field-0.0 same (same_refused plain led_to led_from c.args.text.now c.args.at c.in_err-member_at.field-0.0 (first_refused plain (kind_part Comma) member_part refl refl c.args.text.now _ c.in_err-member_at.field-0.0 c.in_err-member_at.ensures))

pub returns-in_err-member : goal.returns-in_err-member
returns-in_err-member c =
    let same : c.from_residual-in_err-member.result ≡ Err c.in_err-member.field-0.0 = search rules in
    read_refused Plain (Led (IsKind Comma) IsMember) (λ member. member) c.args.text.now c.args.at _ c.in_err-member.field-0.0 same (same_refused plain led_to led_from c.args.text.now c.args.at c.in_err-member.field-0.0 (later_refused plain (kind_part Comma) member_part refl refl c.args.text.now _ c.in_ok-member_at.ensures c.in_err-member.field-0.0 c.in_err-member.ensures))

pub returns : goal.returns
returns c = same_read led_to led_from c.args.text.now c.args.at (λ xs s. s) (then_read (kind_part Comma) member_part refl c.args.text.now _ c.in_ok-member_at.ensures c.in_ok-member.ensures)
