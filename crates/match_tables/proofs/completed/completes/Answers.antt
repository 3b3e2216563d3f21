use Rattle.std.proofs.Common.{arith}
use Rattle.std.proofs.lemmas.Option.{slice_get_within}
use Rattle.match_tables.proofs.Moved.{place-there}
use Rattle.match_tables.proofs.Firsts.{completes-so, completed-moves, completed-end}
use Rattle.match_tables.proofs.completed.completes.Goals as goal

pub returns-then-ends-equation : goal.returns-then-ends-equation
returns-then-ends-equation c = (
  λ r. completes-so c.args.rules.now c.args.ends.now c.requires.ends c.args.step c.args.equation c.args.cell c.equation.result.now c.equation.ensures (record { cell = 0; height = 0 }) c.classes.result.now c.classes.ensures c.cell.result c.if-ends-equation.true (place-there c.args.rules.now c.args.equation c.equation.result.now c.equation.ensures c.args.cell c.requires.place) c.cell.ensures.value (c.moves.ensures.0 r),
  λ x. c.moves.ensures.1 (completed-moves c.args.rules.now c.args.ends.now c.requires.ends c.args.step c.args.equation c.args.cell c.equation.result.now c.equation.ensures (record { cell = 0; height = 0 }) c.classes.result.now c.classes.ensures c.cell.result c.cell.ensures.value x),
)

pub returns-else-ends-equation : goal.returns-else-ends-equation
returns-else-ends-equation c = (
  λ r. absurd (grind arith),
  λ x. absurd (let e = completed-end c.args.rules.now c.args.ends.now c.requires.ends c.args.step c.args.equation c.args.cell (record { cell = 0; height = 0 }) (slice_get_within c.args.rules.now.equations c.args.equation c.requires.place.equation c.requires.place.listed) x in c.if-ends-equation.false e),
)
