use Rattle.std.proofs.Common.{◌≡◌, drop, map}
use Rattle.def_file.specs.Names.{Class}
use Rattle.def_file.specs.Naming.{ArePlaced, only_symbols}
use Rattle.def_file.proofs.Namings.{IsUnderWay}
use Rattle.term_lex.specs.declared.syntax.Syntax.{Syntax}
use Rattle.def_file.specs.Notations.{notation_of}
use Rattle.def_file.proofs.naming.symbols.take_classes.Given as goal

abbrev pub invariant-loop-name : goal.invariant-loop-name
invariant-loop-name l = record {
  under_way : (syntax : Syntax) → IsUnderWay (notation_of syntax) l.text (only_symbols l.initial.symbols) (map Class l.names) (only_symbols l.symbols) (map Class (drop l.name-index l.names));
  placed : ArePlaced l.text (map Class (drop l.name-index l.names));
  few : l.symbols.declared ≡ l.initial.symbols.declared;
}
