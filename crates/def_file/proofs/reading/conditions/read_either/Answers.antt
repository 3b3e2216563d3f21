use Rattle.std.proofs.Common.{◌≡◌, Err, rules, refl}
use Rattle.std.specs.Prelude.{codes}
use Rattle.term_lex.proofs.Parts.{then_part}
use Rattle.term_lex.proofs.PlainAnswers.{word_part}
use Rattle.def_file.specs.Grammar.{IsOneOf}
use Rattle.def_file.proofs.Readings.{read_refused, lifted_refused, same_read, same_refused, then_read, first_refused, later_refused}
use Rattle.def_file.proofs.Rules.{terms_part, one_of_to, one_of_from}
use Rattle.def_file.specs.Notations.{notation_of}
use Rattle.def_file.proofs.Lawful.{lawful_of}
use Rattle.def_file.proofs.WithoutTerms.{word_never}
use Rattle.def_file.proofs.reading.conditions.read_either.Goals as goal

pub returns-in_err-terms_at : goal.returns-in_err-terms_at
returns-in_err-terms_at c =
    let same : c.from_residual.result ≡ Err c.in_err-terms_at.field-0.0 = search rules in
    read_refused (notation_of c.args.syntax).Misplaced (IsOneOf (notation_of c.args.syntax)) (λ terms. terms.items) c.args.text.now c.args.at _ c.in_err-terms_at.field-0.0 same (same_refused (lawful_of c.args.syntax).telling (one_of_to (lawful_of c.args.syntax)) (one_of_from (lawful_of c.args.syntax)) c.args.text.now c.args.at c.in_err-terms_at.field-0.0 (first_refused (lawful_of c.args.syntax).telling (word_part (codes "either")) (then_part (terms_part (lawful_of c.args.syntax)) (then_part (word_part (codes "end")) (word_part (codes "or")) refl) refl) refl refl c.args.text.now _ c.in_err-terms_at.field-0.0 (lifted_refused (lawful_of c.args.syntax).telling (word_never (codes "either")) _ _ c.in_err-terms_at.field-0.0 c.in_err-terms_at.ensures)))

pub returns-in_err-terms : goal.returns-in_err-terms
returns-in_err-terms c =
    let same : c.from_residual-in_err-terms.result ≡ Err c.in_err-terms.field-0.0 = search rules in
    read_refused (notation_of c.args.syntax).Misplaced (IsOneOf (notation_of c.args.syntax)) (λ terms. terms.items) c.args.text.now c.args.at _ c.in_err-terms.field-0.0 same (same_refused (lawful_of c.args.syntax).telling (one_of_to (lawful_of c.args.syntax)) (one_of_from (lawful_of c.args.syntax)) c.args.text.now c.args.at c.in_err-terms.field-0.0 (later_refused (lawful_of c.args.syntax).telling (word_part (codes "either")) (then_part (terms_part (lawful_of c.args.syntax)) (then_part (word_part (codes "end")) (word_part (codes "or")) refl) refl) refl refl c.args.text.now _ c.in_ok-terms_at.ensures c.in_err-terms.field-0.0 (first_refused (lawful_of c.args.syntax).telling (terms_part (lawful_of c.args.syntax)) (then_part (word_part (codes "end")) (word_part (codes "or")) refl) refl refl c.args.text.now _ c.in_err-terms.field-0.0 c.in_err-terms.ensures)))

pub returns-in_err-or_at : goal.returns-in_err-or_at
returns-in_err-or_at c =
    let same : c.from_residual-in_err-or_at.result ≡ Err c.in_err-or_at.field-0.0 = search rules in
    read_refused (notation_of c.args.syntax).Misplaced (IsOneOf (notation_of c.args.syntax)) (λ terms. terms.items) c.args.text.now c.args.at _ c.in_err-or_at.field-0.0 same (same_refused (lawful_of c.args.syntax).telling (one_of_to (lawful_of c.args.syntax)) (one_of_from (lawful_of c.args.syntax)) c.args.text.now c.args.at c.in_err-or_at.field-0.0 (later_refused (lawful_of c.args.syntax).telling (word_part (codes "either")) (then_part (terms_part (lawful_of c.args.syntax)) (then_part (word_part (codes "end")) (word_part (codes "or")) refl) refl) refl refl c.args.text.now _ c.in_ok-terms_at.ensures c.in_err-or_at.field-0.0 (later_refused (lawful_of c.args.syntax).telling (terms_part (lawful_of c.args.syntax)) (then_part (word_part (codes "end")) (word_part (codes "or")) refl) refl refl c.args.text.now _ c.in_ok-terms.ensures c.in_err-or_at.field-0.0 (first_refused (lawful_of c.args.syntax).telling (word_part (codes "end")) (word_part (codes "or")) refl refl c.args.text.now _ c.in_err-or_at.field-0.0 (lifted_refused (lawful_of c.args.syntax).telling (word_never (codes "end")) _ _ c.in_err-or_at.field-0.0 c.in_err-or_at.ensures)))))

pub returns-in_err-end : goal.returns-in_err-end
returns-in_err-end c =
    let same : c.from_residual-in_err-end.result ≡ Err c.in_err-end.field-0.0 = search rules in
    read_refused (notation_of c.args.syntax).Misplaced (IsOneOf (notation_of c.args.syntax)) (λ terms. terms.items) c.args.text.now c.args.at _ c.in_err-end.field-0.0 same (same_refused (lawful_of c.args.syntax).telling (one_of_to (lawful_of c.args.syntax)) (one_of_from (lawful_of c.args.syntax)) c.args.text.now c.args.at c.in_err-end.field-0.0 (later_refused (lawful_of c.args.syntax).telling (word_part (codes "either")) (then_part (terms_part (lawful_of c.args.syntax)) (then_part (word_part (codes "end")) (word_part (codes "or")) refl) refl) refl refl c.args.text.now _ c.in_ok-terms_at.ensures c.in_err-end.field-0.0 (later_refused (lawful_of c.args.syntax).telling (terms_part (lawful_of c.args.syntax)) (then_part (word_part (codes "end")) (word_part (codes "or")) refl) refl refl c.args.text.now _ c.in_ok-terms.ensures c.in_err-end.field-0.0 (later_refused (lawful_of c.args.syntax).telling (word_part (codes "end")) (word_part (codes "or")) refl refl c.args.text.now _ c.in_ok-or_at.ensures c.in_err-end.field-0.0 (lifted_refused (lawful_of c.args.syntax).telling (word_never (codes "or")) _ _ c.in_err-end.field-0.0 c.in_err-end.ensures)))))

pub returns : goal.returns
returns c = same_read (one_of_to (lawful_of c.args.syntax)) (one_of_from (lawful_of c.args.syntax)) c.args.text.now c.args.at (λ xs s. s) (then_read (word_part (codes "either")) (then_part (terms_part (lawful_of c.args.syntax)) (then_part (word_part (codes "end")) (word_part (codes "or")) refl) refl) refl c.args.text.now _ c.in_ok-terms_at.ensures (then_read (terms_part (lawful_of c.args.syntax)) (then_part (word_part (codes "end")) (word_part (codes "or")) refl) refl c.args.text.now _ c.in_ok-terms.ensures (then_read (word_part (codes "end")) (word_part (codes "or")) refl c.args.text.now _ c.in_ok-or_at.ensures c.in_ok-end.ensures)))
