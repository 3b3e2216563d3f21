use Rattle.std.proofs.Common.{◌≡◌, drop, take, map}
use Rattle.def_file.specs.declared.naming.listed.Listed.{Listed}
use Rattle.def_file.specs.Names.{Operation, token_bytes}
use Rattle.def_file.specs.Operations.{operation_name}
use Rattle.def_file.specs.Pairs.{AreRelated}
use Rattle.def_file.specs.Naming.{ArePlaced, knowing}
use Rattle.def_file.proofs.Namings.{IsUnderWay}
use Rattle.term_lex.specs.declared.syntax.Syntax.{Syntax}
use Rattle.def_file.specs.Notations.{notation_of}
use Rattle.def_file.proofs.naming.items.take_operations.Given as goal

abbrev pub invariant-loop-name : goal.invariant-loop-name
invariant-loop-name l = record {
  under_way : (syntax : Syntax) (listed : Listed) → IsUnderWay (notation_of syntax) l.text (knowing l.symbols listed l.initial.operations.items) (map Operation l.names) (knowing l.symbols listed l.operations.items) (map Operation (drop l.name-index l.names));
  operations : AreRelated (λ name o. (token_bytes l.text name ≡ operation_name o.0) × (o.1 ≡ name.from)) (take l.name-index l.names) l.taken.items;
  placed : ArePlaced l.text (map Operation (drop l.name-index l.names));
}
