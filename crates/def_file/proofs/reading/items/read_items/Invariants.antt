use Rattle.std.proofs.Common.{◌-◌, length, map}
use Rattle.term_lex.specs.declared.token.TokenKind.TheVariants.{Semicolon, Dot}
use Rattle.def_file.specs.Grammar.{IsItem}
use Rattle.def_file.specs.Views.{equation_item}
use Rattle.def_file.proofs.Lists.{ClosedBegun}
use Rattle.def_file.specs.Notations.{notation_of}
use Rattle.def_file.proofs.reading.items.read_items.Given as goal

abbrev pub invariant-items : goal.invariant-items
invariant-items l = ClosedBegun (notation_of l.syntax).Misplaced Semicolon Dot (IsItem (notation_of l.syntax)) l.text l.initial.at (map equation_item l.items.items) l.at

abbrev pub decreases-items : goal.decreases-items
decreases-items l = length l.text - l.at
