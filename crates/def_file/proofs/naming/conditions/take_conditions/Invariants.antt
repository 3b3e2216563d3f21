use Rattle.std.proofs.Common.{◌≡◌, List, [], take, drop, map}
use Rattle.eq_base.specs.declared.rules.Op.{Op}
use Rattle.symbol_table.specs.Table.{Keeps}
use Rattle.def_file.specs.Views.{condition}
use Rattle.def_file.specs.Names.{token_bytes, condition_places}
use Rattle.def_file.specs.Naming.{ArePlaced, knowing, qualified_names}
use Rattle.def_file.specs.Pairs.{AreRelated}
use Rattle.def_file.specs.Taking.{Lasts, TakesCondition}
use Rattle.def_file.proofs.Namings.{IsUnderWay}
use Rattle.def_file.specs.Notations.{notation_of}
use Rattle.def_file.proofs.naming.conditions.take_conditions.Given as goal

abbrev pub invariant-loop-next : goal.invariant-loop-next
invariant-loop-next l = record {
  under_way : (operations : List Op) → IsUnderWay (notation_of l.syntax) l.text (knowing l.initial.symbols l.listed operations) (condition_places [] (map condition l.conditions)) (knowing l.symbols l.listed operations) (condition_places (qualified_names (take l.next-index l.conditions)) (map condition (drop l.next-index l.conditions)));
  placed : ArePlaced l.text (condition_places (qualified_names (take l.next-index l.conditions)) (map condition (drop l.next-index l.conditions)));
  qualified : l.qualified ≡ map (token_bytes l.text) (qualified_names (take l.next-index l.conditions));
  keeps : Keeps l.initial.symbols l.symbols;
  conditions : Lasts (λ known table. AreRelated (λ c t. TakesCondition (notation_of l.syntax) l.text known table c.variable c.restriction t) (map condition (take l.next-index l.conditions)) l.taken.items) l.symbols l.listed;
}
