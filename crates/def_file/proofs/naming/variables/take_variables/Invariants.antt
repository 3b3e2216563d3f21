use Rattle.std.proofs.Common.{◌≡◌, ◌≤◌, ◌+◌, drop, map, length}
use Rattle.def_file.specs.Names.{Variable}
use Rattle.def_file.specs.Naming.{ArePlaced, no_operations}
use Rattle.def_file.proofs.Namings.{IsUnderWay}
use Rattle.term_lex.specs.declared.syntax.Syntax.{Syntax}
use Rattle.def_file.specs.Notations.{notation_of}
use Rattle.def_file.proofs.naming.variables.take_variables.Given as goal

abbrev pub invariant-loop-name : goal.invariant-loop-name
invariant-loop-name l = record {
  under_way : (syntax : Syntax) → IsUnderWay (notation_of syntax) l.text (no_operations l.symbols l.initial.listed) (map Variable l.names) (no_operations l.symbols l.listed) (map Variable (drop l.name-index l.names));
  placed : ArePlaced l.text (map Variable (drop l.name-index l.names));
  few : length l.listed.variables ≤ length l.initial.listed.variables + l.name-index;
  class_names : l.listed.class_names ≡ l.initial.listed.class_names;
  classes : l.listed.classes ≡ l.initial.listed.classes;
}
