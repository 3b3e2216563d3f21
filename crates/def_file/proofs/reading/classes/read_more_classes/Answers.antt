use Rattle.std.proofs.Common.{◌≡◌, [], Err, rules, map, sym, subst}
use Rattle.term_lex.specs.Parts.{Some as SomeTree}
use Rattle.def_file.specs.Grammar.{AreMoreClasses}
use Rattle.def_file.specs.Views.{class_item}
use Rattle.def_file.specs.Reading.{IsReadAs}
use Rattle.def_file.proofs.Readings.{read_refused}
use Rattle.def_file.proofs.Deciding.{more_classes_next, more_classes_next_refused, more_classes_end, more_classes_end_refused}
use Rattle.term_lex.proofs.Telling.{Plain}
use Rattle.def_file.proofs.reading.classes.read_more_classes.Goals as goal

pub returns-in_err-items : goal.returns-in_err-items
returns-in_err-items c =
    let same : c.from_residual.result ≡ Err c.in_err-items.field-0.0 = search rules in
    read_refused Plain AreMoreClasses (λ v. map class_item v.items) c.args.text.now c.args.at _ c.in_err-items.field-0.0 same (more_classes_next_refused c.args.text.now c.args.at (c.next_is.ensures.yes c.if-next_is.true) c.in_err-items.field-0.0 c.in_err-items.ensures)

pub returns-then-next_is : goal.returns-then-next_is
returns-then-next_is c = more_classes_next c.args.text.now c.args.at (c.next_is.ensures.yes c.if-next_is.true) (map class_item c.in_ok-items.items.items) c.in_ok-items.items_end c.in_ok-items.ensures

pub returns-in_err-end : goal.returns-in_err-end
returns-in_err-end c =
    let same : c.from_residual-in_err-end.result ≡ Err c.in_err-end.field-0.0 = search rules in
    read_refused Plain AreMoreClasses (λ v. map class_item v.items) c.args.text.now c.args.at _ c.in_err-end.field-0.0 same (more_classes_end_refused c.args.text.now c.args.at (c.next_is.ensures.not c.if-next_is.false) c.in_err-end.field-0.0 c.in_err-end.ensures)

pub returns : goal.returns
returns c =
    let none : c.new.result.items ≡ [] = search rules in
    subst (λ cs. IsReadAs (SomeTree AreMoreClasses) (AreMoreClasses (map class_item cs)) c.args.text.now c.args.at c.in_ok-end.end) (sym none) (more_classes_end c.args.text.now c.args.at (c.next_is.ensures.not c.if-next_is.false) c.in_ok-end.end c.in_ok-end.ensures)
