use Rattle.std.proofs.Common.{◌≡◌, Err, rules, refl}
use Rattle.std.specs.Prelude.{codes}
use Rattle.term_lex.specs.declared.token.TokenKind.TheVariants.{Name}
use Rattle.term_lex.proofs.Parts.{then_part}
use Rattle.term_lex.proofs.PlainAnswers.{word_part}
use Rattle.def_file.specs.Grammar.{IsCondition}
use Rattle.def_file.specs.Views.{condition}
use Rattle.def_file.proofs.Readings.{read_refused, lifted_refused, same_read, same_refused, then_read, first_refused, later_refused}
use Rattle.def_file.proofs.Rules.{token_part, restriction_part, condition_to, condition_from}
use Rattle.def_file.specs.Notations.{notation_of}
use Rattle.def_file.proofs.Lawful.{lawful_of}
use Rattle.def_file.proofs.WithoutTerms.{a_token_never, word_never}
use Rattle.def_file.proofs.reading.conditions.read_condition.Goals as goal

pub returns-in_err-variable : goal.returns-in_err-variable
returns-in_err-variable c =
    let same : c.from_residual.result ≡ Err c.in_err-variable.field-0.0 = search rules in
    read_refused (notation_of c.args.syntax).Misplaced (IsCondition (notation_of c.args.syntax)) condition c.args.text.now c.args.at _ c.in_err-variable.field-0.0 same (same_refused (lawful_of c.args.syntax).telling (condition_to (lawful_of c.args.syntax)) (condition_from (lawful_of c.args.syntax)) c.args.text.now c.args.at c.in_err-variable.field-0.0 (first_refused (lawful_of c.args.syntax).telling (token_part Name) (then_part (word_part (codes "is")) (restriction_part (lawful_of c.args.syntax)) refl) refl refl c.args.text.now _ c.in_err-variable.field-0.0 (lifted_refused (lawful_of c.args.syntax).telling (a_token_never Name refl) _ _ c.in_err-variable.field-0.0 c.in_err-variable.ensures)))

pub returns-in_err-restriction_at : goal.returns-in_err-restriction_at
returns-in_err-restriction_at c =
    let same : c.from_residual-in_err-restriction_at.result ≡ Err c.in_err-restriction_at.field-0.0 = search rules in
    read_refused (notation_of c.args.syntax).Misplaced (IsCondition (notation_of c.args.syntax)) condition c.args.text.now c.args.at _ c.in_err-restriction_at.field-0.0 same (same_refused (lawful_of c.args.syntax).telling (condition_to (lawful_of c.args.syntax)) (condition_from (lawful_of c.args.syntax)) c.args.text.now c.args.at c.in_err-restriction_at.field-0.0 (later_refused (lawful_of c.args.syntax).telling (token_part Name) (then_part (word_part (codes "is")) (restriction_part (lawful_of c.args.syntax)) refl) refl refl c.args.text.now _ c.in_ok-variable.ensures c.in_err-restriction_at.field-0.0 (first_refused (lawful_of c.args.syntax).telling (word_part (codes "is")) (restriction_part (lawful_of c.args.syntax)) refl refl c.args.text.now _ c.in_err-restriction_at.field-0.0 (lifted_refused (lawful_of c.args.syntax).telling (word_never (codes "is")) _ _ c.in_err-restriction_at.field-0.0 c.in_err-restriction_at.ensures))))

pub returns-in_err-restriction : goal.returns-in_err-restriction
returns-in_err-restriction c =
    let same : c.from_residual-in_err-restriction.result ≡ Err c.in_err-restriction.field-0.0 = search rules in
    read_refused (notation_of c.args.syntax).Misplaced (IsCondition (notation_of c.args.syntax)) condition c.args.text.now c.args.at _ c.in_err-restriction.field-0.0 same (same_refused (lawful_of c.args.syntax).telling (condition_to (lawful_of c.args.syntax)) (condition_from (lawful_of c.args.syntax)) c.args.text.now c.args.at c.in_err-restriction.field-0.0 (later_refused (lawful_of c.args.syntax).telling (token_part Name) (then_part (word_part (codes "is")) (restriction_part (lawful_of c.args.syntax)) refl) refl refl c.args.text.now _ c.in_ok-variable.ensures c.in_err-restriction.field-0.0 (later_refused (lawful_of c.args.syntax).telling (word_part (codes "is")) (restriction_part (lawful_of c.args.syntax)) refl refl c.args.text.now _ c.in_ok-restriction_at.ensures c.in_err-restriction.field-0.0 c.in_err-restriction.ensures)))

pub returns : goal.returns
returns c = same_read (condition_to (lawful_of c.args.syntax)) (condition_from (lawful_of c.args.syntax)) c.args.text.now c.args.at (λ xs s. s) (then_read (token_part Name) (then_part (word_part (codes "is")) (restriction_part (lawful_of c.args.syntax)) refl) refl c.args.text.now _ c.in_ok-variable.ensures (then_read (word_part (codes "is")) (restriction_part (lawful_of c.args.syntax)) refl c.args.text.now _ c.in_ok-restriction_at.ensures c.in_ok-restriction.ensures))
