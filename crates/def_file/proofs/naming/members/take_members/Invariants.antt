use Rattle.std.proofs.Common.{◌≡◌, drop, map, length}
use Rattle.symbol_table.specs.Table.{names_of}
use Rattle.symbol_table.specs.Reading.{AreLiveClasses}
use Rattle.def_file.specs.Names.{Member, member_count}
use Rattle.def_file.specs.Naming.{ArePlaced, no_operations}
use Rattle.def_file.proofs.Namings.{IsUnderWay}
use Rattle.term_lex.specs.declared.syntax.Syntax.{Syntax}
use Rattle.def_file.specs.Notations.{notation_of}
use Rattle.def_file.proofs.naming.members.take_members.Given as goal

abbrev pub invariant-loop-member : goal.invariant-loop-member
invariant-loop-member l = record {
  under_way : (syntax : Syntax) → IsUnderWay (notation_of syntax) l.text (no_operations l.symbols l.initial.listed) (map (Member l.class) l.members) (no_operations l.symbols l.listed) (map (Member l.class) (drop l.member-index l.members));
  placed : ArePlaced l.text (map (Member l.class) (drop l.member-index l.members));
  names : l.listed.class_names ≡ l.initial.listed.class_names;
  variables : l.listed.variables ≡ l.initial.listed.variables;
  len : length l.listed.classes ≡ length l.initial.listed.classes;
  counted : l.listed.members ≡ member_count l.listed.classes;
  live : AreLiveClasses (names_of l.symbols) l.initial.listed.classes → AreLiveClasses (names_of l.symbols) l.listed.classes;
}
