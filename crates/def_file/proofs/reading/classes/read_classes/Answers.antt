use Rattle.std.proofs.Common.{◌≡◌, [], Err, rules, map, sym, subst}
use Rattle.term_lex.specs.Parts.{Some as SomeTree}
use Rattle.def_file.specs.Grammar.{AreClasses}
use Rattle.def_file.specs.Views.{class_item}
use Rattle.def_file.specs.Reading.{IsReadAs}
use Rattle.def_file.proofs.Readings.{read_refused}
use Rattle.def_file.proofs.Deciding.{classes_some, classes_some_refused, classes_none}
use Rattle.term_lex.proofs.Telling.{Plain}
use Rattle.def_file.proofs.reading.classes.read_classes.Goals as goal

pub returns-in_err-first : goal.returns-in_err-first
returns-in_err-first c =
    let same : c.from_residual.result ≡ Err c.in_err-first.field-0.0 = search rules in
    read_refused Plain AreClasses (λ v. map class_item v.items) c.args.text.now c.args.at _ c.in_err-first.field-0.0 same (classes_some_refused c.args.text.now c.args.at (c.next_is_word.ensures.yes c.if-next_is_word.true) c.in_err-first.field-0.0 c.in_err-first.ensures)

pub returns-then-next_is_word : goal.returns-then-next_is_word
returns-then-next_is_word c = subst (λ vs. IsReadAs (SomeTree AreClasses) (AreClasses (map class_item vs)) c.args.text.now c.args.at c.in_ok-first.end) (sym c.in_ok-insert.ensures.items) (classes_some c.args.text.now c.args.at (c.next_is_word.ensures.yes c.if-next_is_word.true) (class_item c.in_ok-first.first) (map class_item c.in_ok-first.more.items) c.in_ok-first.end c.in_ok-first.ensures)

pub returns : goal.returns
returns c =
    let none : c.new.result.items ≡ [] = search rules in
    subst (λ cs. IsReadAs (SomeTree AreClasses) (AreClasses (map class_item cs)) c.args.text.now c.args.at c.args.at) (sym none) (classes_none c.args.text.now c.args.at (c.next_is_word.ensures.not c.if-next_is_word.false) c.requires)
