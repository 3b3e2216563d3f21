use Rattle.std.proofs.Common.{◌≡◌, ◌≤◌, drop, take, map, length}
use Rattle.std.specs.List.{flat_map}
use Rattle.symbol_table.specs.Table.{Keeps}
use Rattle.def_file.specs.Views.{equation_item}
use Rattle.def_file.specs.Names.{item_places}
use Rattle.def_file.specs.Naming.{ArePlaced, knowing}
use Rattle.def_file.specs.Sides.{equation_of, all_limits, AnswersLimits}
use Rattle.def_file.specs.AsRead.{numbered_read, AreLiveItems}
use Rattle.def_file.specs.Definitions.{MeanItems}
use Rattle.def_file.specs.Taking.{Lasts}
use Rattle.def_file.proofs.Namings.{IsUnderWay}
use Rattle.def_file.specs.Notations.{notation_of}
use Rattle.def_file.proofs.naming.items.take_items.Given as goal

abbrev pub invariant-loop-i : goal.invariant-loop-i
invariant-loop-i l = record {
  under_way : IsUnderWay (notation_of l.syntax) l.text (knowing l.initial.symbols l.listed l.initial.operations.items) (flat_map item_places (map equation_item l.items)) (knowing l.symbols l.listed l.operations.items) (flat_map item_places (map equation_item (drop l.i l.items)));
  placed : ArePlaced l.text (flat_map item_places (map equation_item (drop l.i l.items)));
  keeps : Keeps l.initial.symbols l.symbols;
  few : l.taken.equations ≤ l.i;
  equations : l.taken.equations ≡ length (flat_map equation_of (map equation_item (take l.i l.items)));
  items : Lasts (λ known table. MeanItems (notation_of l.syntax) l.text known 1 (map equation_item (take l.i l.items)) (map (numbered_read table) l.taken.items.items)) l.symbols l.listed;
  live : Lasts (λ known table. AreLiveItems table l.taken.items.items) l.symbols l.listed;
  limits : Lasts (λ known table. AnswersLimits (notation_of l.syntax) l.text known (all_limits 0 (flat_map equation_of (map equation_item (take l.i l.items)))) l.taken.fault) l.symbols l.listed;
}
