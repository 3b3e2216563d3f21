use Rattle.std.proofs.Common.{◌≡◌, Err, rules}
use Rattle.def_file.specs.Grammar.{IsRestriction}
use Rattle.def_file.specs.Views.{restriction}
use Rattle.def_file.proofs.Readings.{read_refused, lifted_refused}
use Rattle.def_file.proofs.Deciding.{restriction_in_refused, restriction_in, restriction_either_refused, restriction_either}
use Rattle.def_file.specs.Notations.{notation_of}
use Rattle.def_file.proofs.Lawful.{lawful_of}
use Rattle.def_file.proofs.WithoutTerms.{in_class_never}
use Rattle.def_file.proofs.reading.conditions.read_restriction.Goals as goal

pub returns-in_err-class : goal.returns-in_err-class
returns-in_err-class c =
    let same : c.from_residual.result ≡ Err c.in_err-class.field-0.0 = search rules in
    read_refused (notation_of c.args.syntax).Misplaced (IsRestriction (notation_of c.args.syntax)) restriction c.args.text.now c.args.at _ c.in_err-class.field-0.0 same (restriction_in_refused (lawful_of c.args.syntax) c.args.text.now c.args.at (c.next_is_word.ensures.yes c.if-next_is_word.true) c.in_err-class.field-0.0 (lifted_refused (lawful_of c.args.syntax).telling in_class_never _ _ c.in_err-class.field-0.0 c.in_err-class.ensures))

pub returns-then-next_is_word : goal.returns-then-next_is_word
returns-then-next_is_word c = restriction_in (lawful_of c.args.syntax) c.args.text.now c.args.at (c.next_is_word.ensures.yes c.if-next_is_word.true) c.in_ok-class.class c.in_ok-class.class_end c.in_ok-class.ensures

pub returns-in_err-terms : goal.returns-in_err-terms
returns-in_err-terms c =
    let same : c.from_residual-in_err-terms.result ≡ Err c.in_err-terms.field-0.0 = search rules in
    read_refused (notation_of c.args.syntax).Misplaced (IsRestriction (notation_of c.args.syntax)) restriction c.args.text.now c.args.at _ c.in_err-terms.field-0.0 same (restriction_either_refused (lawful_of c.args.syntax) c.args.text.now c.args.at (c.next_is_word.ensures.not c.if-next_is_word.false) c.in_err-terms.field-0.0 c.in_err-terms.ensures)

pub returns : goal.returns
returns c = restriction_either (lawful_of c.args.syntax) c.args.text.now c.args.at (c.next_is_word.ensures.not c.if-next_is_word.false) c.in_ok-terms.terms.items c.in_ok-terms.end c.in_ok-terms.ensures
