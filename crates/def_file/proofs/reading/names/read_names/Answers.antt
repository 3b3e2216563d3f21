use Rattle.std.proofs.Common.{◌≡◌, [], Err, rules, refl, arith, sym, subst}
use Rattle.term_lex.specs.declared.token.TokenKind.TheVariants.{Name, Comma}
use Rattle.term_lex.specs.Parts.{IsKind}
use Rattle.term_lex.proofs.Marks.{Kind}
use Rattle.term_lex.proofs.PlainAnswers.{some_of_kind, of_kind, answer_further}
use Rattle.term_lex.proofs.ListAnswers.{led_part}
use Rattle.def_file.specs.Grammar.{IsToken, IsNames}
use Rattle.def_file.proofs.Readings.{read_refused}
use Rattle.def_file.proofs.Rules.{token_part}
use Rattle.def_file.proofs.Lists.{first-pushed, ListBegun, list_first, list_first_refused, list_more, list_more_refused, list_done}
use Rattle.term_lex.proofs.Telling.{Plain, plain}
use Rattle.def_file.proofs.reading.names.read_names.Goals as goal

pub returns-in_err-first : goal.returns-in_err-first
returns-in_err-first c =
    let same : c.from_residual.result ≡ Err c.in_err-first.field-0.0 = search rules in
    read_refused Plain IsNames (λ names. names.items) c.args.text.now c.args.at _ c.in_err-first.field-0.0 same (list_first_refused plain (IsKind Comma) (IsToken Name) (Kind Comma) (λ x t. t) (some_of_kind Comma) (of_kind Comma) (token_part Name) refl refl refl c.args.text.now c.args.at c.in_err-first.field-0.0 c.in_err-first.ensures)

pub names-init : goal.names-init
names-init c =
    let none : c.new-names.result.items ≡ [] = search rules in
    subst (λ vs. ListBegun Plain (IsKind Comma) (IsToken Name) c.args.text.now c.args.at vs c.in_ok-first.first_end) (sym (first-pushed c.in_ok-first.first none c.in_ok-push.ensures.items)) (list_first plain (IsKind Comma) (IsToken Name) (Kind Comma) (λ x t. t) (some_of_kind Comma) (of_kind Comma) (token_part Name) refl refl refl c.args.text.now c.args.at c.in_ok-first.first c.in_ok-first.first_end c.in_ok-first.ensures)

pub returns-in_err-name : goal.returns-in_err-name
returns-in_err-name c =
    let same : c.from_residual-in_err-name.result ≡ Err c.in_err-name.field-0.0 = search rules in
    read_refused Plain IsNames (λ names. names.items) c.args.text.now c.args.at _ c.in_err-name.field-0.0 same (list_more_refused plain (IsKind Comma) (IsToken Name) (Kind Comma) (λ x t. t) (some_of_kind Comma) (of_kind Comma) (token_part Name) refl refl refl c.args.text.now c.args.at c.names.names.items c.names.end c.names.invariant (c.next_is.ensures.yes c.names-test.true) c.in_err-name.field-0.0 c.in_err-name.ensures)

pub names-smaller : goal.names-smaller
names-smaller c =
    let further = answer_further (led_part (IsKind Comma) (IsToken Name) (Kind Comma) (λ x t. t) (some_of_kind Comma) (of_kind Comma) (token_part Name) refl) refl c.args.text.now c.names.end c.in_ok-name.name_end c.names.invariant.within c.in_ok-name.ensures.answer in
    omega (arith, further, c.in_ok-name.ensures.within)

pub names-preserved : goal.names-preserved
names-preserved c = subst (λ vs. ListBegun Plain (IsKind Comma) (IsToken Name) c.args.text.now c.args.at vs c.in_ok-name.name_end) (sym c.in_ok-push-2.ensures.items) (list_more plain (IsKind Comma) (IsToken Name) (Kind Comma) (λ x t. t) (some_of_kind Comma) (of_kind Comma) (token_part Name) refl refl refl c.args.text.now c.args.at c.names.names.items c.in_ok-name.name c.names.end c.in_ok-name.name_end c.names.invariant (c.next_is.ensures.yes c.names-test.true) c.in_ok-name.ensures)

pub returns : goal.returns
returns c = list_done plain (IsKind Comma) (IsToken Name) (Kind Comma) (λ x t. t) (some_of_kind Comma) (of_kind Comma) (token_part Name) refl refl refl c.args.text.now c.args.at c.names.names.items c.names.end c.names.invariant (c.next_is.ensures.not c.names-test.false)
