use Rattle.std.proofs.Common.{◌-◌, length}
use Rattle.std.specs.Prelude.{codes}
use Rattle.term_lex.specs.Parts.{IsWord}
use Rattle.def_file.specs.Grammar.{IsTermFrom}
use Rattle.def_file.proofs.Lists.{ListBegun}
use Rattle.def_file.specs.Notations.{notation_of}
use Rattle.def_file.proofs.reading.terms.read_terms.Given as goal

abbrev pub invariant-terms : goal.invariant-terms
invariant-terms l = ListBegun (notation_of l.syntax).Misplaced (IsWord (codes "or")) (IsTermFrom (notation_of l.syntax)) l.text l.at l.terms.items l.end

abbrev pub decreases-terms : goal.decreases-terms
decreases-terms l = length l.text - l.end
