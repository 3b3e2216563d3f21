use Rattle.std.proofs.Common.{◌≡◌, [], Err, rules, refl, map, arith, sym, subst}
use Rattle.term_lex.specs.declared.token.TokenKind.TheVariants.{Semicolon, Dot}
use Rattle.term_lex.specs.Parts.{IsKind, Closed, Some as SomeTree}
use Rattle.term_lex.proofs.PlainAnswers.{kind_part, answer_further}
use Rattle.def_file.specs.Grammar.{IsClassItem}
use Rattle.def_file.specs.Views.{class_item}
use Rattle.def_file.specs.Reading.{IsReadAs}
use Rattle.def_file.proofs.Readings.{read_refused}
use Rattle.def_file.proofs.Rules.{class_item_part}
use Rattle.def_file.proofs.Lists.{map-one_more, ClosedBegun, closed_begun, closed_item_refused, closed_last, closed_last_refused, separator_refused, closed_on, closed_done, closed_done_refused}
use Rattle.term_lex.proofs.Telling.{Plain, plain}
use Rattle.def_file.proofs.reading.classes.read_class_items.Goals as goal

pub items-init : goal.items-init
items-init c =
    let none : c.new-items.result.items ≡ [] = search rules in
    subst (λ vs. ClosedBegun Plain Semicolon Dot IsClassItem c.args.text.now c.args.at (map class_item vs) c.args.at) (sym none) (closed_begun plain Semicolon Dot IsClassItem class_item_part refl refl refl refl c.args.text.now c.args.at c.requires)

pub returns-in_err-item : goal.returns-in_err-item
returns-in_err-item c =
    let same : c.from_residual.result ≡ Err c.in_err-item.field-0.0 = search rules in
    read_refused Plain (Closed (IsKind Semicolon) (IsKind Dot) IsClassItem) (λ v. map class_item v.items) c.args.text.now c.args.at _ c.in_err-item.field-0.0 same (closed_item_refused plain Semicolon Dot IsClassItem class_item_part refl refl refl refl c.args.text.now c.args.at (map class_item c.items.items.items) c.items.at c.items.invariant (c.next_is.ensures.not c.items-test.true) c.in_err-item.field-0.0 c.in_err-item.ensures)

pub returns-in_err-end : goal.returns-in_err-end
returns-in_err-end c =
    let same : c.from_residual-in_err-end.result ≡ Err c.in_err-end.field-0.0 = search rules in
    read_refused Plain (Closed (IsKind Semicolon) (IsKind Dot) IsClassItem) (λ v. map class_item v.items) c.args.text.now c.args.at _ c.in_err-end.field-0.0 same (closed_last_refused plain Semicolon Dot IsClassItem class_item_part refl refl refl refl c.args.text.now c.args.at (map class_item c.items.items.items) c.items.at c.items.invariant (c.next_is.ensures.not c.items-test.true) (class_item c.in_ok-item.item) c.in_ok-item.item_end c.in_ok-item.ensures (c.next_is-in-items.ensures.not c.if-not-next_is.true) c.in_err-end.field-0.0 c.in_err-end.ensures)

pub returns-then-not-next_is : goal.returns-then-not-next_is
returns-then-not-next_is c = subst (λ vs. IsReadAs (SomeTree (Closed (IsKind Semicolon) (IsKind Dot) IsClassItem)) (Closed (IsKind Semicolon) (IsKind Dot) IsClassItem vs) c.args.text.now c.args.at c.in_ok-end.end) (sym (map-one_more class_item c.items.items.items c.in_ok-item.item c.in_ok-push.ensures.items)) (closed_last plain Semicolon Dot IsClassItem class_item_part refl refl refl refl c.args.text.now c.args.at (map class_item c.items.items.items) c.items.at c.items.invariant (c.next_is.ensures.not c.items-test.true) (class_item c.in_ok-item.item) c.in_ok-item.item_end c.in_ok-item.ensures c.in_ok-end.end (c.next_is-in-items.ensures.not c.if-not-next_is.true) c.in_ok-end.ensures)

pub returns-in_err-at : goal.returns-in_err-at
returns-in_err-at c =
    let same : c.from_residual-in_err-at.result ≡ Err c.in_err-at.field-0.0 = search rules in
    read_refused Plain (Closed (IsKind Semicolon) (IsKind Dot) IsClassItem) (λ v. map class_item v.items) c.args.text.now c.args.at _ c.in_err-at.field-0.0 same (separator_refused plain Semicolon Dot IsClassItem class_item_part refl refl refl refl c.args.text.now c.args.at c.in_ok-item.item_end (c.next_is-in-items.ensures.yes c.if-not-next_is.false) c.in_err-at.field-0.0 c.in_err-at.ensures)

pub items-preserved : goal.items-preserved
items-preserved c = subst (λ vs. ClosedBegun Plain Semicolon Dot IsClassItem c.args.text.now c.args.at vs c.in_ok-at.at) (sym (map-one_more class_item c.items.items.items c.in_ok-item.item c.in_ok-push.ensures.items)) (closed_on plain Semicolon Dot IsClassItem class_item_part refl refl refl refl c.args.text.now c.args.at (map class_item c.items.items.items) c.items.at c.items.invariant (c.next_is.ensures.not c.items-test.true) (class_item c.in_ok-item.item) c.in_ok-item.item_end c.in_ok-item.ensures c.in_ok-at.at (c.next_is-in-items.ensures.yes c.if-not-next_is.false) c.in_ok-at.ensures)

pub items-smaller : goal.items-smaller
items-smaller c =
    let item = answer_further class_item_part refl c.args.text.now c.items.at c.in_ok-item.item_end c.items.invariant.within c.in_ok-item.ensures.answer in
    let sign = answer_further (kind_part Semicolon) refl c.args.text.now c.in_ok-item.item_end c.in_ok-at.at c.in_ok-item.ensures.within c.in_ok-at.ensures.answer in
    omega (arith, item, sign, c.in_ok-at.ensures.within)

pub returns-in_err-end-2 : goal.returns-in_err-end-2
returns-in_err-end-2 c =
    let same : c.from_residual-in_err-end-2.result ≡ Err c.in_err-end-2.field-0.0 = search rules in
    read_refused Plain (Closed (IsKind Semicolon) (IsKind Dot) IsClassItem) (λ v. map class_item v.items) c.args.text.now c.args.at _ c.in_err-end-2.field-0.0 same (closed_done_refused plain Semicolon Dot IsClassItem class_item_part refl refl refl refl c.args.text.now c.args.at (map class_item c.items.items.items) c.items.at c.items.invariant (c.next_is.ensures.yes c.items-test.false) c.in_err-end-2.field-0.0 c.in_err-end-2.ensures)

pub returns : goal.returns
returns c = closed_done plain Semicolon Dot IsClassItem class_item_part refl refl refl refl c.args.text.now c.args.at (map class_item c.items.items.items) c.items.at c.items.invariant c.in_ok-end-2.end (c.next_is.ensures.yes c.items-test.false) c.in_ok-end-2.ensures
