use Rattle.std.proofs.Common.{◌≤◌, ◌+◌, drop, map, length}
use Rattle.std.specs.List.{flat_map}
use Rattle.def_file.specs.Views.{symbol_item}
use Rattle.def_file.specs.Names.{symbol_places}
use Rattle.def_file.specs.Naming.{ArePlaced, only_symbols}
use Rattle.def_file.proofs.Namings.{IsUnderWay}
use Rattle.term_lex.specs.declared.syntax.Syntax.{Syntax}
use Rattle.def_file.specs.Notations.{notation_of}
use Rattle.def_file.proofs.naming.symbols.take_symbols.Given as goal

abbrev pub invariant-loop-item : goal.invariant-loop-item
invariant-loop-item l = record {
  under_way : (syntax : Syntax) → IsUnderWay (notation_of syntax) l.text (only_symbols l.initial.symbols) (flat_map symbol_places (map symbol_item l.items)) (only_symbols l.symbols) (flat_map symbol_places (map symbol_item (drop l.item-index l.items)));
  placed : ArePlaced l.text (flat_map symbol_places (map symbol_item (drop l.item-index l.items)));
  few : length l.symbols.declared ≤ length l.initial.symbols.declared + l.item-index;
}
