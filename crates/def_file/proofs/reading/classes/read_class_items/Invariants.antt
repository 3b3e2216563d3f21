use Rattle.std.proofs.Common.{◌-◌, length, map}
use Rattle.term_lex.specs.declared.token.TokenKind.TheVariants.{Semicolon, Dot}
use Rattle.def_file.specs.Grammar.{IsClassItem}
use Rattle.def_file.specs.Views.{class_item}
use Rattle.def_file.proofs.Lists.{ClosedBegun}
use Rattle.term_lex.proofs.Telling.{Plain}
use Rattle.def_file.proofs.reading.classes.read_class_items.Given as goal

abbrev pub invariant-items : goal.invariant-items
invariant-items l = ClosedBegun Plain Semicolon Dot IsClassItem l.text l.initial.at (map class_item l.items.items) l.at

abbrev pub decreases-items : goal.decreases-items
decreases-items l = length l.text - l.at
