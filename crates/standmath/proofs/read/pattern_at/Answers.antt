use Rattle.std.proofs.Common.{sym, subst}
use Rattle.symbol_table.specs.Table.{names_of}
use Rattle.symbol_table.specs.Reading.{read_pattern}
use Rattle.written_terms.specs.Mentions.{Mentioned}
use Rattle.written_terms.proofs.ReadAnswers.{pattern_read}
use Rattle.standmath.specs.Notation.{standmath}
use Rattle.standmath.proofs.OneReading.{lawful}
use Rattle.standmath.proofs.read.pattern_at.Goals as goal

pub returns-clause-answer : goal.returns-clause-answer
returns-clause-answer c =
    let m = subst (λ ms. Mentioned standmath c.args.text.now c.args.at ms c.in_ok-mentions.end) (sym c.deref.ensures.value) c.in_ok-mentions.ensures.ok in
    pattern_read standmath lawful (names_of c.args.symbols.now) c.args.text.now c.args.at m c.args.variables.now (read_pattern c.pattern_of.new.symbols c.in_ok-pattern.pattern) c.in_ok-pattern.ensures.ok
