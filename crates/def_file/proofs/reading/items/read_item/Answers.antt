use Rattle.std.proofs.Common.{◌≡◌, Err, rules}
use Rattle.def_file.specs.Grammar.{IsItem}
use Rattle.def_file.specs.Views.{sides, equation_item}
use Rattle.def_file.proofs.Readings.{read_refused}
use Rattle.def_file.proofs.Deciding.{item_include_refused, item_include, item_equation_refused, item_equation}
use Rattle.def_file.specs.Notations.{notation_of}
use Rattle.def_file.proofs.Lawful.{lawful_of}
use Rattle.def_file.proofs.reading.items.read_item.Goals as goal

pub returns-in_err-include : goal.returns-in_err-include
returns-in_err-include c =
    let same : c.from_residual.result ≡ Err c.in_err-include.field-0.0 = search rules in
    read_refused (notation_of c.args.syntax).Misplaced (IsItem (notation_of c.args.syntax)) equation_item c.args.text.now c.args.at _ c.in_err-include.field-0.0 same (item_include_refused (lawful_of c.args.syntax) c.args.text.now c.args.at (c.next_is_word.ensures.yes c.if-next_is_word.true) c.in_err-include.field-0.0 c.in_err-include.ensures)

pub returns-then-next_is_word : goal.returns-then-next_is_word
returns-then-next_is_word c = item_include (lawful_of c.args.syntax) c.args.text.now c.args.at (c.next_is_word.ensures.yes c.if-next_is_word.true) (c.in_ok-include.include, c.in_ok-include.names.items) c.in_ok-include.names_end c.in_ok-include.ensures

pub returns-in_err-sides : goal.returns-in_err-sides
returns-in_err-sides c =
    let same : c.from_residual-in_err-sides.result ≡ Err c.in_err-sides.field-0.0 = search rules in
    read_refused (notation_of c.args.syntax).Misplaced (IsItem (notation_of c.args.syntax)) equation_item c.args.text.now c.args.at _ c.in_err-sides.field-0.0 same (item_equation_refused (lawful_of c.args.syntax) c.args.text.now c.args.at (c.next_is_word.ensures.not c.if-next_is_word.false) c.in_err-sides.field-0.0 c.in_err-sides.ensures)

pub returns : goal.returns
returns c = item_equation (lawful_of c.args.syntax) c.args.text.now c.args.at (c.next_is_word.ensures.not c.if-next_is_word.false) (sides c.in_ok-sides.sides) c.in_ok-sides.end c.in_ok-sides.ensures
