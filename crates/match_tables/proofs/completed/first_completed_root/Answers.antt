use Rattle.std.proofs.Common.{[], refl, arith}
use Rattle.match_tables.proofs.Moved.{root-place, element-at}
use Rattle.match_tables.proofs.Firsts.{first-none, first-root, completes-below}
use Rattle.match_tables.proofs.completed.first_completed_root.Goals as goal

pub completes-requires-clause-place : goal.completes-requires-clause-place
completes-requires-clause-place c =
    let x = element-at c.args.rules.now.equations c.loop-equation.equation (omega (arith, c.len-equation-end.ensures)) in
    root-place c.args.rules.now c.loop-equation.equation x.0 x.1

pub returns-then-completes : goal.returns-then-completes
returns-then-completes c = first-root c.args.rules.now c.args.step c.loop-equation.equation (c.completes.ensures.0 c.if-completes.true) c.loop-equation.invariant

pub returns : goal.returns
returns c = first-none c.args.rules.now c.args.step [] refl (λ e x. c.loop-equation.invariant e (let lt = completes-below c.args.rules.now c.args.ends.now c.requires.ends c.args.step e 0 x in omega (arith, lt, c.loop-equation-test.false, c.len-equation-end.ensures)) x)
