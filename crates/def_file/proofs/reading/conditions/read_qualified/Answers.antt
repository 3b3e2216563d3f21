use Rattle.std.proofs.Common.{◌≡◌, Err, rules, refl, map}
use Rattle.std.specs.Prelude.{codes}
use Rattle.term_lex.proofs.Parts.{then_part}
use Rattle.term_lex.proofs.PlainAnswers.{word_part}
use Rattle.def_file.specs.Grammar.{IsConditions}
use Rattle.def_file.specs.Views.{condition}
use Rattle.def_file.proofs.Readings.{read_refused, lifted_refused, same_read, same_refused, then_read, first_refused, later_refused}
use Rattle.def_file.proofs.Rules.{conditions_part, qualified_to, qualified_from}
use Rattle.def_file.specs.Notations.{notation_of}
use Rattle.def_file.proofs.Lawful.{lawful_of}
use Rattle.def_file.proofs.WithoutTerms.{word_never}
use Rattle.def_file.proofs.reading.conditions.read_qualified.Goals as goal

pub returns-in_err-conditions_at : goal.returns-in_err-conditions_at
returns-in_err-conditions_at c =
    let same : c.from_residual.result ≡ Err c.in_err-conditions_at.field-0.0 = search rules in
    read_refused (notation_of c.args.syntax).Misplaced (IsConditions (notation_of c.args.syntax)) (λ v. map condition v.items) c.args.text.now c.args.at _ c.in_err-conditions_at.field-0.0 same (same_refused (lawful_of c.args.syntax).telling (qualified_to (lawful_of c.args.syntax)) (qualified_from (lawful_of c.args.syntax)) c.args.text.now c.args.at c.in_err-conditions_at.field-0.0 (first_refused (lawful_of c.args.syntax).telling (word_part (codes "where")) (then_part (conditions_part (lawful_of c.args.syntax)) (then_part (word_part (codes "end")) (word_part (codes "where")) refl) refl) refl refl c.args.text.now _ c.in_err-conditions_at.field-0.0 (lifted_refused (lawful_of c.args.syntax).telling (word_never (codes "where")) _ _ c.in_err-conditions_at.field-0.0 c.in_err-conditions_at.ensures)))

pub returns-in_err-conditions : goal.returns-in_err-conditions
returns-in_err-conditions c =
    let same : c.from_residual-in_err-conditions.result ≡ Err c.in_err-conditions.field-0.0 = search rules in
    read_refused (notation_of c.args.syntax).Misplaced (IsConditions (notation_of c.args.syntax)) (λ v. map condition v.items) c.args.text.now c.args.at _ c.in_err-conditions.field-0.0 same (same_refused (lawful_of c.args.syntax).telling (qualified_to (lawful_of c.args.syntax)) (qualified_from (lawful_of c.args.syntax)) c.args.text.now c.args.at c.in_err-conditions.field-0.0 (later_refused (lawful_of c.args.syntax).telling (word_part (codes "where")) (then_part (conditions_part (lawful_of c.args.syntax)) (then_part (word_part (codes "end")) (word_part (codes "where")) refl) refl) refl refl c.args.text.now _ c.in_ok-conditions_at.ensures c.in_err-conditions.field-0.0 (first_refused (lawful_of c.args.syntax).telling (conditions_part (lawful_of c.args.syntax)) (then_part (word_part (codes "end")) (word_part (codes "where")) refl) refl refl c.args.text.now _ c.in_err-conditions.field-0.0 c.in_err-conditions.ensures)))

pub returns-in_err-where_at : goal.returns-in_err-where_at
returns-in_err-where_at c =
    let same : c.from_residual-in_err-where_at.result ≡ Err c.in_err-where_at.field-0.0 = search rules in
    read_refused (notation_of c.args.syntax).Misplaced (IsConditions (notation_of c.args.syntax)) (λ v. map condition v.items) c.args.text.now c.args.at _ c.in_err-where_at.field-0.0 same (same_refused (lawful_of c.args.syntax).telling (qualified_to (lawful_of c.args.syntax)) (qualified_from (lawful_of c.args.syntax)) c.args.text.now c.args.at c.in_err-where_at.field-0.0 (later_refused (lawful_of c.args.syntax).telling (word_part (codes "where")) (then_part (conditions_part (lawful_of c.args.syntax)) (then_part (word_part (codes "end")) (word_part (codes "where")) refl) refl) refl refl c.args.text.now _ c.in_ok-conditions_at.ensures c.in_err-where_at.field-0.0 (later_refused (lawful_of c.args.syntax).telling (conditions_part (lawful_of c.args.syntax)) (then_part (word_part (codes "end")) (word_part (codes "where")) refl) refl refl c.args.text.now _ c.in_ok-conditions.ensures c.in_err-where_at.field-0.0 (first_refused (lawful_of c.args.syntax).telling (word_part (codes "end")) (word_part (codes "where")) refl refl c.args.text.now _ c.in_err-where_at.field-0.0 (lifted_refused (lawful_of c.args.syntax).telling (word_never (codes "end")) _ _ c.in_err-where_at.field-0.0 c.in_err-where_at.ensures)))))

pub returns-in_err-end : goal.returns-in_err-end
returns-in_err-end c =
    let same : c.from_residual-in_err-end.result ≡ Err c.in_err-end.field-0.0 = search rules in
    read_refused (notation_of c.args.syntax).Misplaced (IsConditions (notation_of c.args.syntax)) (λ v. map condition v.items) c.args.text.now c.args.at _ c.in_err-end.field-0.0 same (same_refused (lawful_of c.args.syntax).telling (qualified_to (lawful_of c.args.syntax)) (qualified_from (lawful_of c.args.syntax)) c.args.text.now c.args.at c.in_err-end.field-0.0 (later_refused (lawful_of c.args.syntax).telling (word_part (codes "where")) (then_part (conditions_part (lawful_of c.args.syntax)) (then_part (word_part (codes "end")) (word_part (codes "where")) refl) refl) refl refl c.args.text.now _ c.in_ok-conditions_at.ensures c.in_err-end.field-0.0 (later_refused (lawful_of c.args.syntax).telling (conditions_part (lawful_of c.args.syntax)) (then_part (word_part (codes "end")) (word_part (codes "where")) refl) refl refl c.args.text.now _ c.in_ok-conditions.ensures c.in_err-end.field-0.0 (later_refused (lawful_of c.args.syntax).telling (word_part (codes "end")) (word_part (codes "where")) refl refl c.args.text.now _ c.in_ok-where_at.ensures c.in_err-end.field-0.0 (lifted_refused (lawful_of c.args.syntax).telling (word_never (codes "where")) _ _ c.in_err-end.field-0.0 c.in_err-end.ensures)))))

pub returns : goal.returns
returns c = same_read (qualified_to (lawful_of c.args.syntax)) (qualified_from (lawful_of c.args.syntax)) c.args.text.now c.args.at (λ xs s. s) (then_read (word_part (codes "where")) (then_part (conditions_part (lawful_of c.args.syntax)) (then_part (word_part (codes "end")) (word_part (codes "where")) refl) refl) refl c.args.text.now _ c.in_ok-conditions_at.ensures (then_read (conditions_part (lawful_of c.args.syntax)) (then_part (word_part (codes "end")) (word_part (codes "where")) refl) refl c.args.text.now _ c.in_ok-conditions.ensures (then_read (word_part (codes "end")) (word_part (codes "where")) refl c.args.text.now _ c.in_ok-where_at.ensures c.in_ok-end.ensures)))
