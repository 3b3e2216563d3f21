use Rattle.std.proofs.Common.{◌≡◌, Err, rules}
use Rattle.def_file.specs.Grammar.{IsSymbolItem}
use Rattle.def_file.specs.Views.{symbol_item}
use Rattle.def_file.proofs.Readings.{read_refused}
use Rattle.def_file.proofs.Deciding.{symbol_item_include_refused, symbol_item_include, symbol_item_declared_refused, symbol_item_declared}
use Rattle.term_lex.proofs.Telling.{Plain}
use Rattle.def_file.proofs.reading.symbols.read_symbol_item.Goals as goal

pub returns-in_err-include : goal.returns-in_err-include
returns-in_err-include c =
    let same : c.from_residual.result ≡ Err c.in_err-include.field-0.0 = search rules in
    read_refused Plain IsSymbolItem symbol_item c.args.text.now c.args.at _ c.in_err-include.field-0.0 same (symbol_item_include_refused c.args.text.now c.args.at (c.next_is_word.ensures.yes c.if-next_is_word.true) c.in_err-include.field-0.0 c.in_err-include.ensures)

pub returns-then-next_is_word : goal.returns-then-next_is_word
returns-then-next_is_word c = symbol_item_include c.args.text.now c.args.at (c.next_is_word.ensures.yes c.if-next_is_word.true) (c.in_ok-include.include, c.in_ok-include.names.items) c.in_ok-include.names_end c.in_ok-include.ensures

pub returns-in_err-name : goal.returns-in_err-name
returns-in_err-name c =
    let same : c.from_residual-in_err-name.result ≡ Err c.in_err-name.field-0.0 = search rules in
    read_refused Plain IsSymbolItem symbol_item c.args.text.now c.args.at _ c.in_err-name.field-0.0 same (symbol_item_declared_refused c.args.text.now c.args.at (c.next_is_word.ensures.not c.if-next_is_word.false) c.in_err-name.field-0.0 c.in_err-name.ensures)

pub returns : goal.returns
returns c = symbol_item_declared c.args.text.now c.args.at (c.next_is_word.ensures.not c.if-next_is_word.false) c.in_ok-name.name c.in_ok-name.arity c.in_ok-name.end c.in_ok-name.ensures
