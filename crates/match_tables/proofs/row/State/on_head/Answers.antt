use Rattle.std.proofs.Common.{refl, sym, subst}
use Rattle.match_tables.proofs.Named.{IsLiteralOf, by-class, by-symbol}
use Rattle.match_tables.proofs.row.State.on_head.Goals as goal

pub returns-in-Symbol : goal.returns-in-Symbol
returns-in-Symbol c = λ rules w sets items row.
    by-symbol rules sets items c.args.self.now row c.args.head c.args.root w c.in_default.ensures c.in-Symbol.field-0 c.in-Symbol.is

pub returns-in-Numeral : goal.returns-in-Numeral
returns-in-Numeral c = λ rules w sets items row.
    by-class rules sets items c.args.self.now row c.args.head c.args.root w c.in_default.ensures 0 c.args.self.now.numerals (subst (IsLiteralOf 0) (sym c.in-Numeral.is) refl) row.numerals

pub returns-in-Atom : goal.returns-in-Atom
returns-in-Atom c = λ rules w sets items row.
    by-class rules sets items c.args.self.now row c.args.head c.args.root w c.in_default.ensures 1 c.args.self.now.atoms (subst (IsLiteralOf 1) (sym c.in-Atom.is) refl) row.atoms

pub returns-in-Text : goal.returns-in-Text
returns-in-Text c = λ rules w sets items row.
    by-class rules sets items c.args.self.now row c.args.head c.args.root w c.in_default.ensures 3 c.args.self.now.strings (subst (IsLiteralOf 3) (sym c.in-Text.is) refl) row.strings
