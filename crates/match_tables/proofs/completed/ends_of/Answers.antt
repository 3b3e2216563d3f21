use Rattle.std.proofs.Common.{arith}
use Rattle.match_tables.proofs.LastCells.{well-formed-at, end-is, ends-none, ends-push, ends-all}
use Rattle.match_tables.proofs.completed.ends_of.Goals as goal

pub loop-equation-init : goal.loop-equation-init
loop-equation-init c = ends-none c.args.rules.now c.new-ends.result.items c.new-ends.ensures.items

pub end_of-requires-clause-root : goal.end_of-requires-clause-root
end_of-requires-clause-root c = (well-formed-at c.args.rules.now c.requires c.loop-equation.equation c.equation.result.now c.equation.ensures).root

pub end_of-requires-clause-few : goal.end_of-requires-clause-few
end_of-requires-clause-few c = (well-formed-at c.args.rules.now c.requires c.loop-equation.equation c.equation.result.now c.equation.ensures).left_size

pub loop-equation-preserved : goal.loop-equation-preserved
loop-equation-preserved c =
    rw c.in_ok-push.ensures.items
    (ends-push c.args.rules.now c.loop-equation.equation c.loop-equation.ends.items c.end_of.result
    (end-is c.args.rules.now c.loop-equation.equation c.equation.result.now c.end_of.result c.equation.ensures c.end_of.ensures)
    c.loop-equation.invariant)

pub returns : goal.returns
returns c = ends-all c.args.rules.now c.loop-equation.equation c.loop-equation.ends.items (omega (arith, c.loop-equation-test.false, c.len-equation-end.ensures, c.loop-equation.auto)) c.loop-equation.invariant
