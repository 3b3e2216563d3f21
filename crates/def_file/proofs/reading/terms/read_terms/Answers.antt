use Rattle.std.proofs.Common.{◌≡◌, [], Err, rules, refl, arith, sym, subst}
use Rattle.std.specs.Prelude.{codes}
use Rattle.term_lex.specs.Parts.{IsWord}
use Rattle.term_lex.proofs.Marks.{Word}
use Rattle.term_lex.proofs.PlainAnswers.{some_word, of_word, answer_further}
use Rattle.term_lex.proofs.ListAnswers.{led_part}
use Rattle.def_file.specs.Grammar.{IsTermFrom, IsTerms}
use Rattle.def_file.proofs.Readings.{read_refused}
use Rattle.def_file.proofs.Rules.{side_part}
use Rattle.def_file.proofs.Lists.{first-pushed, ListBegun, list_first, list_first_refused, list_more, list_more_refused, list_done}
use Rattle.def_file.specs.Notations.{notation_of}
use Rattle.def_file.proofs.Lawful.{lawful_of}
use Rattle.def_file.proofs.reading.terms.read_terms.Goals as goal

pub returns-in_err-first : goal.returns-in_err-first
returns-in_err-first c =
    let same : c.from_residual.result ≡ Err c.in_err-first.field-0.0 = search rules in
    read_refused (notation_of c.args.syntax).Misplaced (IsTerms (notation_of c.args.syntax)) (λ terms. terms.items) c.args.text.now c.args.at _ c.in_err-first.field-0.0 same (list_first_refused (lawful_of c.args.syntax).telling (IsWord (codes "or")) (IsTermFrom (notation_of c.args.syntax)) (Word (codes "or")) (λ x t. t) (some_word (codes "or")) (of_word (codes "or")) (side_part (lawful_of c.args.syntax)) refl refl refl c.args.text.now c.args.at c.in_err-first.field-0.0 c.in_err-first.ensures)

pub terms-init : goal.terms-init
terms-init c =
    let none : c.new-terms.result.items ≡ [] = search rules in
    subst (λ vs. ListBegun (notation_of c.args.syntax).Misplaced (IsWord (codes "or")) (IsTermFrom (notation_of c.args.syntax)) c.args.text.now c.args.at vs c.in_ok-first.first_end) (sym (first-pushed c.in_ok-first.first none c.in_ok-push.ensures.items)) (list_first (lawful_of c.args.syntax).telling (IsWord (codes "or")) (IsTermFrom (notation_of c.args.syntax)) (Word (codes "or")) (λ x t. t) (some_word (codes "or")) (of_word (codes "or")) (side_part (lawful_of c.args.syntax)) refl refl refl c.args.text.now c.args.at c.in_ok-first.first c.in_ok-first.first_end c.in_ok-first.ensures)

pub returns-in_err-term : goal.returns-in_err-term
returns-in_err-term c =
    let same : c.from_residual-in_err-term.result ≡ Err c.in_err-term.field-0.0 = search rules in
    read_refused (notation_of c.args.syntax).Misplaced (IsTerms (notation_of c.args.syntax)) (λ terms. terms.items) c.args.text.now c.args.at _ c.in_err-term.field-0.0 same (list_more_refused (lawful_of c.args.syntax).telling (IsWord (codes "or")) (IsTermFrom (notation_of c.args.syntax)) (Word (codes "or")) (λ x t. t) (some_word (codes "or")) (of_word (codes "or")) (side_part (lawful_of c.args.syntax)) refl refl refl c.args.text.now c.args.at c.terms.terms.items c.terms.end c.terms.invariant (c.next_is_word.ensures.yes c.terms-test.true) c.in_err-term.field-0.0 c.in_err-term.ensures)

pub terms-smaller : goal.terms-smaller
terms-smaller c =
    let further = answer_further (led_part (IsWord (codes "or")) (IsTermFrom (notation_of c.args.syntax)) (Word (codes "or")) (λ x t. t) (some_word (codes "or")) (of_word (codes "or")) (side_part (lawful_of c.args.syntax)) refl) refl c.args.text.now c.terms.end c.in_ok-term.term_end c.terms.invariant.within c.in_ok-term.ensures.answer in
    omega (arith, further, c.in_ok-term.ensures.within)

pub terms-preserved : goal.terms-preserved
terms-preserved c = subst (λ vs. ListBegun (notation_of c.args.syntax).Misplaced (IsWord (codes "or")) (IsTermFrom (notation_of c.args.syntax)) c.args.text.now c.args.at vs c.in_ok-term.term_end) (sym c.in_ok-push-2.ensures.items) (list_more (lawful_of c.args.syntax).telling (IsWord (codes "or")) (IsTermFrom (notation_of c.args.syntax)) (Word (codes "or")) (λ x t. t) (some_word (codes "or")) (of_word (codes "or")) (side_part (lawful_of c.args.syntax)) refl refl refl c.args.text.now c.args.at c.terms.terms.items c.in_ok-term.term c.terms.end c.in_ok-term.term_end c.terms.invariant (c.next_is_word.ensures.yes c.terms-test.true) c.in_ok-term.ensures)

pub returns : goal.returns
returns c = list_done (lawful_of c.args.syntax).telling (IsWord (codes "or")) (IsTermFrom (notation_of c.args.syntax)) (Word (codes "or")) (λ x t. t) (some_word (codes "or")) (of_word (codes "or")) (side_part (lawful_of c.args.syntax)) refl refl refl c.args.text.now c.args.at c.terms.terms.items c.terms.end c.terms.invariant (c.next_is_word.ensures.not c.terms-test.false)
