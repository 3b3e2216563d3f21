use Rattle.std.proofs.Common.{◌≡◌, Err, rules, refl}
use Rattle.std.specs.Prelude.{codes}
use Rattle.term_lex.specs.Parts.{IsWord, Led}
use Rattle.term_lex.proofs.PlainAnswers.{word_part}
use Rattle.term_lex.proofs.ListAnswers.{led_to, led_from}
use Rattle.def_file.specs.Grammar.{IsTermFrom}
use Rattle.def_file.proofs.Readings.{read_refused, lifted_refused, same_read, same_refused, then_read, first_refused, later_refused}
use Rattle.def_file.proofs.Rules.{side_part}
use Rattle.def_file.specs.Notations.{notation_of}
use Rattle.def_file.proofs.Lawful.{lawful_of}
use Rattle.def_file.proofs.WithoutTerms.{word_never}
use Rattle.def_file.proofs.reading.terms.read_next_term.Goals as goal

pub returns-in_err-term_at : goal.returns-in_err-term_at
returns-in_err-term_at c =
    let same : c.from_residual.result ≡ Err c.in_err-term_at.field-0.0 = search rules in
    read_refused (notation_of c.args.syntax).Misplaced (Led (IsWord (codes "or")) (IsTermFrom (notation_of c.args.syntax))) (λ byte. byte) c.args.text.now c.args.at _ c.in_err-term_at.field-0.0 same (same_refused (lawful_of c.args.syntax).telling led_to led_from c.args.text.now c.args.at c.in_err-term_at.field-0.0 (first_refused (lawful_of c.args.syntax).telling (word_part (codes "or")) (side_part (lawful_of c.args.syntax)) refl refl c.args.text.now _ c.in_err-term_at.field-0.0 (lifted_refused (lawful_of c.args.syntax).telling (word_never (codes "or")) _ _ c.in_err-term_at.field-0.0 c.in_err-term_at.ensures)))

pub returns-in_err-term : goal.returns-in_err-term
returns-in_err-term c =
    let same : c.from_residual-in_err-term.result ≡ Err c.in_err-term.field-0.0 = search rules in
    read_refused (notation_of c.args.syntax).Misplaced (Led (IsWord (codes "or")) (IsTermFrom (notation_of c.args.syntax))) (λ byte. byte) c.args.text.now c.args.at _ c.in_err-term.field-0.0 same (same_refused (lawful_of c.args.syntax).telling led_to led_from c.args.text.now c.args.at c.in_err-term.field-0.0 (later_refused (lawful_of c.args.syntax).telling (word_part (codes "or")) (side_part (lawful_of c.args.syntax)) refl refl c.args.text.now _ c.in_ok-term_at.ensures c.in_err-term.field-0.0 c.in_err-term.ensures))

pub returns : goal.returns
returns c = same_read led_to led_from c.args.text.now c.args.at (λ xs s. s) (then_read (word_part (codes "or")) (side_part (lawful_of c.args.syntax)) refl c.args.text.now _ c.in_ok-term_at.ensures c.in_ok-term.ensures)
