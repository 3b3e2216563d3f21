use Rattle.std.proofs.Common.{◌≡◌, [], Err, rules, refl, map, arith, sym, subst, ap}
use Rattle.term_lex.specs.declared.token.TokenKind.TheVariants.{Comma}
use Rattle.term_lex.specs.Parts.{IsKind, Separated}
use Rattle.term_lex.proofs.Marks.{Kind}
use Rattle.term_lex.proofs.PlainAnswers.{some_of_kind, of_kind, answer_further}
use Rattle.term_lex.proofs.ListAnswers.{led_part}
use Rattle.def_file.specs.Grammar.{IsCondition}
use Rattle.def_file.specs.Views.{condition}
use Rattle.def_file.proofs.Readings.{read_refused}
use Rattle.def_file.proofs.Rules.{condition_part}
use Rattle.def_file.proofs.Lists.{map-one_more, first-pushed, ListBegun, list_first, list_first_refused, list_more, list_more_refused, list_done}
use Rattle.def_file.specs.Notations.{notation_of}
use Rattle.def_file.proofs.Lawful.{lawful_of}
use Rattle.def_file.proofs.reading.conditions.read_conditions.Goals as goal

pub returns-in_err-first : goal.returns-in_err-first
returns-in_err-first c =
    let same : c.from_residual.result ≡ Err c.in_err-first.field-0.0 = search rules in
    read_refused (notation_of c.args.syntax).Misplaced (Separated (IsKind Comma) (IsCondition (notation_of c.args.syntax))) (λ v. map condition v.items) c.args.text.now c.args.at _ c.in_err-first.field-0.0 same (list_first_refused (lawful_of c.args.syntax).telling (IsKind Comma) (IsCondition (notation_of c.args.syntax)) (Kind Comma) (λ x t. t) (some_of_kind Comma) (of_kind Comma) (condition_part (lawful_of c.args.syntax)) refl refl refl c.args.text.now c.args.at c.in_err-first.field-0.0 c.in_err-first.ensures)

pub conditions-init : goal.conditions-init
conditions-init c =
    let none : c.new-conditions.result.items ≡ [] = search rules in
    subst (λ vs. ListBegun (notation_of c.args.syntax).Misplaced (IsKind Comma) (IsCondition (notation_of c.args.syntax)) c.args.text.now c.args.at vs c.in_ok-first.first_end) (sym (ap (map condition) (first-pushed c.in_ok-first.first none c.in_ok-push.ensures.items))) (list_first (lawful_of c.args.syntax).telling (IsKind Comma) (IsCondition (notation_of c.args.syntax)) (Kind Comma) (λ x t. t) (some_of_kind Comma) (of_kind Comma) (condition_part (lawful_of c.args.syntax)) refl refl refl c.args.text.now c.args.at (condition c.in_ok-first.first) c.in_ok-first.first_end c.in_ok-first.ensures)

pub returns-in_err-condition : goal.returns-in_err-condition
returns-in_err-condition c =
    let same : c.from_residual-in_err-condition.result ≡ Err c.in_err-condition.field-0.0 = search rules in
    read_refused (notation_of c.args.syntax).Misplaced (Separated (IsKind Comma) (IsCondition (notation_of c.args.syntax))) (λ v. map condition v.items) c.args.text.now c.args.at _ c.in_err-condition.field-0.0 same (list_more_refused (lawful_of c.args.syntax).telling (IsKind Comma) (IsCondition (notation_of c.args.syntax)) (Kind Comma) (λ x t. t) (some_of_kind Comma) (of_kind Comma) (condition_part (lawful_of c.args.syntax)) refl refl refl c.args.text.now c.args.at (map condition c.conditions.conditions.items) c.conditions.end c.conditions.invariant (c.next_is.ensures.yes c.conditions-test.true) c.in_err-condition.field-0.0 c.in_err-condition.ensures)

pub conditions-smaller : goal.conditions-smaller
conditions-smaller c =
    let further = answer_further (led_part (IsKind Comma) (IsCondition (notation_of c.args.syntax)) (Kind Comma) (λ x t. t) (some_of_kind Comma) (of_kind Comma) (condition_part (lawful_of c.args.syntax)) refl) refl c.args.text.now c.conditions.end c.in_ok-condition.condition_end c.conditions.invariant.within c.in_ok-condition.ensures.answer in
    omega (arith, further, c.in_ok-condition.ensures.within)

pub conditions-preserved : goal.conditions-preserved
conditions-preserved c = subst (λ vs. ListBegun (notation_of c.args.syntax).Misplaced (IsKind Comma) (IsCondition (notation_of c.args.syntax)) c.args.text.now c.args.at vs c.in_ok-condition.condition_end) (sym (map-one_more condition _ c.in_ok-condition.condition c.in_ok-push-2.ensures.items)) (list_more (lawful_of c.args.syntax).telling (IsKind Comma) (IsCondition (notation_of c.args.syntax)) (Kind Comma) (λ x t. t) (some_of_kind Comma) (of_kind Comma) (condition_part (lawful_of c.args.syntax)) refl refl refl c.args.text.now c.args.at (map condition c.conditions.conditions.items) (condition c.in_ok-condition.condition) c.conditions.end c.in_ok-condition.condition_end c.conditions.invariant (c.next_is.ensures.yes c.conditions-test.true) c.in_ok-condition.ensures)

pub returns : goal.returns
returns c = list_done (lawful_of c.args.syntax).telling (IsKind Comma) (IsCondition (notation_of c.args.syntax)) (Kind Comma) (λ x t. t) (some_of_kind Comma) (of_kind Comma) (condition_part (lawful_of c.args.syntax)) refl refl refl c.args.text.now c.args.at (map condition c.conditions.conditions.items) c.conditions.end c.conditions.invariant (c.next_is.ensures.not c.conditions-test.false)
