use Rattle.std.proofs.Common.{◌<◌, suc, arith}
use Rattle.eq_base.specs.Tree.{size}
use Rattle.match_tables.proofs.Moved.{place-there, on-moves, moves-read, moves-below}
use Rattle.match_tables.proofs.further.moves_on.Goals as goal

pub overflow_add-cell : goal.overflow_add-cell
overflow_add-cell c =
    let there = place-there c.args.rules.now c.args.equation c.equation.result.now c.equation.ensures c.args.cell c.requires in
    omega (arith, there, c.len-len.ensures, c.len-len.type_inv)

pub returns-then-cell-len : goal.returns-then-cell-len
returns-then-cell-len c =
    let lt : suc c.args.cell < size c.equation.result.now.left = omega (arith, c.len-len.ensures) in (
      λ r. on-moves c.args.rules.now c.args.equation c.equation.result.now c.equation.ensures c.classes.result.now c.classes.ensures c.args.step c.args.cell c.cell.result lt c.cell.ensures.value (c.moves.ensures.0 r),
      λ m. c.moves.ensures.1 (moves-read c.args.rules.now c.args.equation c.equation.result.now c.equation.ensures c.classes.result.now c.classes.ensures c.args.step c.args.cell c.cell.result c.cell.ensures.value m),
    )

pub returns-else-cell-len : goal.returns-else-cell-len
returns-else-cell-len c = (
  λ r. absurd (grind arith),
  λ m. absurd (let lt = moves-below c.args.rules.now c.args.equation c.equation.result.now c.equation.ensures c.args.step c.args.cell m in omega (arith, lt, c.len-len.ensures)),
)
