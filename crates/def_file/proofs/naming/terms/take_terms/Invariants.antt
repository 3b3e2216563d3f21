use Rattle.std.proofs.Common.{List, drop, take, map}
use Rattle.eq_base.specs.declared.rules.Op.{Op}
use Rattle.symbol_table.specs.Table.{Keeps}
use Rattle.def_file.specs.Names.{Term}
use Rattle.def_file.specs.Naming.{ArePlaced, knowing}
use Rattle.def_file.specs.Pairs.{AreRelated}
use Rattle.def_file.specs.Taking.{Lasts, IsSideTaken}
use Rattle.def_file.proofs.Namings.{IsUnderWay}
use Rattle.def_file.specs.Notations.{notation_of}
use Rattle.def_file.proofs.naming.terms.take_terms.Given as goal

abbrev pub invariant-loop-byte : goal.invariant-loop-byte
invariant-loop-byte l = record {
  under_way : (operations : List Op) → IsUnderWay (notation_of l.syntax) l.text (knowing l.initial.symbols l.listed operations) (map Term l.terms) (knowing l.symbols l.listed operations) (map Term (drop l.byte-index l.terms));
  placed : ArePlaced l.text (map Term (drop l.byte-index l.terms));
  keeps : Keeps l.initial.symbols l.symbols;
  patterns : Lasts (λ known table. AreRelated (IsSideTaken (notation_of l.syntax) l.text known table) (take l.byte-index l.terms) l.patterns.items) l.symbols l.listed;
}
