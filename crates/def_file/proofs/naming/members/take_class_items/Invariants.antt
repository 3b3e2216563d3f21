use Rattle.std.proofs.Common.{◌≡◌, ◌+◌, drop, map, length}
use Rattle.symbol_table.specs.Table.{names_of}
use Rattle.symbol_table.specs.Reading.{AreLiveClasses}
use Rattle.def_file.specs.Views.{class_item}
use Rattle.def_file.specs.Names.{classes_places, member_count}
use Rattle.def_file.specs.Naming.{ArePlaced, no_operations}
use Rattle.def_file.proofs.Namings.{IsUnderWay}
use Rattle.term_lex.specs.declared.syntax.Syntax.{Syntax}
use Rattle.def_file.specs.Notations.{notation_of}
use Rattle.def_file.proofs.naming.members.take_class_items.Given as goal

abbrev pub invariant-loop-item : goal.invariant-loop-item
invariant-loop-item l = record {
  under_way : (syntax : Syntax) → IsUnderWay (notation_of syntax) l.text (no_operations l.symbols l.initial.listed) (classes_places 4 (map class_item l.items)) (no_operations l.symbols l.listed) (classes_places (4 + l.item-index) (map class_item (drop l.item-index l.items)));
  placed : ArePlaced l.text (classes_places (4 + l.item-index) (map class_item (drop l.item-index l.items)));
  variables : l.listed.variables ≡ l.initial.listed.variables;
  named : length l.listed.class_names ≡ length l.listed.classes;
  len : length l.listed.classes ≡ l.item-index;
  counted : l.listed.members ≡ member_count l.listed.classes;
  live : AreLiveClasses (names_of l.symbols) l.listed.classes;
}
