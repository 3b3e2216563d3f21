use Rattle.std.proofs.Common.{◌≡◌, Err, rules, refl}
use Rattle.term_lex.specs.declared.token.TokenKind.TheVariants.{Equals}
use Rattle.term_lex.proofs.Parts.{then_part}
use Rattle.term_lex.proofs.PlainAnswers.{kind_part}
use Rattle.def_file.specs.Grammar.{IsEquation}
use Rattle.def_file.specs.Views.{sides}
use Rattle.def_file.proofs.Readings.{read_refused, lifted_refused, same_read, same_refused, then_read, first_refused, later_refused}
use Rattle.def_file.proofs.Rules.{side_part, where_part, equation_to, equation_from}
use Rattle.def_file.specs.Notations.{notation_of}
use Rattle.def_file.proofs.Lawful.{lawful_of}
use Rattle.def_file.proofs.WithoutTerms.{kind_never}
use Rattle.def_file.proofs.reading.items.read_equation.Goals as goal

pub returns-in_err-left : goal.returns-in_err-left
returns-in_err-left c =
    let same : c.from_residual.result ≡ Err c.in_err-left.field-0.0 = search rules in
    read_refused (notation_of c.args.syntax).Misplaced (IsEquation (notation_of c.args.syntax)) sides c.args.text.now c.args.at _ c.in_err-left.field-0.0 same (same_refused (lawful_of c.args.syntax).telling (equation_to (lawful_of c.args.syntax)) (equation_from (lawful_of c.args.syntax)) c.args.text.now c.args.at c.in_err-left.field-0.0 (first_refused (lawful_of c.args.syntax).telling (side_part (lawful_of c.args.syntax)) (then_part (kind_part Equals) (then_part (side_part (lawful_of c.args.syntax)) (where_part (lawful_of c.args.syntax)) refl) refl) refl refl c.args.text.now _ c.in_err-left.field-0.0 c.in_err-left.ensures))

pub returns-in_err-right_at : goal.returns-in_err-right_at
returns-in_err-right_at c =
    let same : c.from_residual-in_err-right_at.result ≡ Err c.in_err-right_at.field-0.0 = search rules in
    read_refused (notation_of c.args.syntax).Misplaced (IsEquation (notation_of c.args.syntax)) sides c.args.text.now c.args.at _ c.in_err-right_at.field-0.0 same (same_refused (lawful_of c.args.syntax).telling (equation_to (lawful_of c.args.syntax)) (equation_from (lawful_of c.args.syntax)) c.args.text.now c.args.at c.in_err-right_at.field-0.0 (later_refused (lawful_of c.args.syntax).telling (side_part (lawful_of c.args.syntax)) (then_part (kind_part Equals) (then_part (side_part (lawful_of c.args.syntax)) (where_part (lawful_of c.args.syntax)) refl) refl) refl refl c.args.text.now _ c.in_ok-left.ensures c.in_err-right_at.field-0.0 (first_refused (lawful_of c.args.syntax).telling (kind_part Equals) (then_part (side_part (lawful_of c.args.syntax)) (where_part (lawful_of c.args.syntax)) refl) refl refl c.args.text.now _ c.in_err-right_at.field-0.0 (lifted_refused (lawful_of c.args.syntax).telling (kind_never Equals refl) _ _ c.in_err-right_at.field-0.0 c.in_err-right_at.ensures))))

pub returns-in_err-right : goal.returns-in_err-right
returns-in_err-right c =
    let same : c.from_residual-in_err-right.result ≡ Err c.in_err-right.field-0.0 = search rules in
    read_refused (notation_of c.args.syntax).Misplaced (IsEquation (notation_of c.args.syntax)) sides c.args.text.now c.args.at _ c.in_err-right.field-0.0 same (same_refused (lawful_of c.args.syntax).telling (equation_to (lawful_of c.args.syntax)) (equation_from (lawful_of c.args.syntax)) c.args.text.now c.args.at c.in_err-right.field-0.0 (later_refused (lawful_of c.args.syntax).telling (side_part (lawful_of c.args.syntax)) (then_part (kind_part Equals) (then_part (side_part (lawful_of c.args.syntax)) (where_part (lawful_of c.args.syntax)) refl) refl) refl refl c.args.text.now _ c.in_ok-left.ensures c.in_err-right.field-0.0 (later_refused (lawful_of c.args.syntax).telling (kind_part Equals) (then_part (side_part (lawful_of c.args.syntax)) (where_part (lawful_of c.args.syntax)) refl) refl refl c.args.text.now _ c.in_ok-right_at.ensures c.in_err-right.field-0.0 (first_refused (lawful_of c.args.syntax).telling (side_part (lawful_of c.args.syntax)) (where_part (lawful_of c.args.syntax)) refl refl c.args.text.now _ c.in_err-right.field-0.0 c.in_err-right.ensures))))

pub returns-in_err-conditions : goal.returns-in_err-conditions
returns-in_err-conditions c =
    let same : c.from_residual-in_err-conditions.result ≡ Err c.in_err-conditions.field-0.0 = search rules in
    read_refused (notation_of c.args.syntax).Misplaced (IsEquation (notation_of c.args.syntax)) sides c.args.text.now c.args.at _ c.in_err-conditions.field-0.0 same (same_refused (lawful_of c.args.syntax).telling (equation_to (lawful_of c.args.syntax)) (equation_from (lawful_of c.args.syntax)) c.args.text.now c.args.at c.in_err-conditions.field-0.0 (later_refused (lawful_of c.args.syntax).telling (side_part (lawful_of c.args.syntax)) (then_part (kind_part Equals) (then_part (side_part (lawful_of c.args.syntax)) (where_part (lawful_of c.args.syntax)) refl) refl) refl refl c.args.text.now _ c.in_ok-left.ensures c.in_err-conditions.field-0.0 (later_refused (lawful_of c.args.syntax).telling (kind_part Equals) (then_part (side_part (lawful_of c.args.syntax)) (where_part (lawful_of c.args.syntax)) refl) refl refl c.args.text.now _ c.in_ok-right_at.ensures c.in_err-conditions.field-0.0 (later_refused (lawful_of c.args.syntax).telling (side_part (lawful_of c.args.syntax)) (where_part (lawful_of c.args.syntax)) refl refl c.args.text.now _ c.in_ok-right.ensures c.in_err-conditions.field-0.0 c.in_err-conditions.ensures))))

pub returns : goal.returns
returns c = same_read (equation_to (lawful_of c.args.syntax)) (equation_from (lawful_of c.args.syntax)) c.args.text.now c.args.at (λ xs s. s) (then_read (side_part (lawful_of c.args.syntax)) (then_part (kind_part Equals) (then_part (side_part (lawful_of c.args.syntax)) (where_part (lawful_of c.args.syntax)) refl) refl) refl c.args.text.now _ c.in_ok-left.ensures (then_read (kind_part Equals) (then_part (side_part (lawful_of c.args.syntax)) (where_part (lawful_of c.args.syntax)) refl) refl c.args.text.now _ c.in_ok-right_at.ensures (then_read (side_part (lawful_of c.args.syntax)) (where_part (lawful_of c.args.syntax)) refl c.args.text.now _ c.in_ok-right.ensures c.in_ok-conditions.ensures)))
