use Rattle.std.proofs.Common.{◌≡◌, ◌+◌, ◌-◌, ◌<◌, arith, subst, max, None}
use Rattle.eq_base.specs.Tree.{nth_subtree}
use Rattle.eq_base.proofs.Trees.{end_within}
use Rattle.eq_base.specs.Rules.{system_of}
use Rattle.orthogonal_laws.specs.Operations.{Values}
use Rattle.orthogonal_laws.proofs.RegularLists.{regular_well_formed, regular_orthogonal}
use Rattle.orthogonal_laws.proofs.OperandsRead.{live_at}
use Rattle.orthogonal_laws.proofs.Stuck.{fits_with, stuck_with}
use Rattle.orthogonal_laws.proofs.Followed.{IsFollowed, followed_start}
use Rattle.orthogonal_laws.proofs.Descending.{fails_within, follow_end, follow_on}
use Rattle.orthogonal_laws.proofs.demand.demanded_redex.Goals as goal

pub loop-number-init : goal.loop-number-init
loop-number-init c =
    record {
      after = omega arith;
      there = c.requires.at;
      order = omega arith;
      followed = λ values w o.
          let t = nth_subtree c.args.term.now c.args.at in
          let e : 0 ≡ c.args.at - c.args.at = omega arith in
          subst (λ z. IsFollowed (system_of values c.args.rules.now) w o t t z z) e (followed_start (system_of values c.args.rules.now) w o t);
    }

pub returns-then-last-node : goal.returns-then-last-node
returns-then-last-node c =
    λ values by.
    let i = c.loop-number.invariant in
    let w = regular_well_formed values c.args.rules.now c.requires.regular in
    let o = regular_orthogonal values c.args.rules.now c.requires.regular in
    let fails = c.in-Fails.ensures in
    follow_end values c.args.rules.now w o _ c.args.term.now _ c.loop-number.node c.loop-number.last c.in-Fails.failing c.max-last.result (i.followed values w o) fails.1 i.order fails.0 (omega arith) (omega arith)

pub argument_toward-node-requires-clause-within : goal.argument_toward-node-requires-clause-within
argument_toward-node-requires-clause-within c =
    let i = c.loop-number.invariant in
    let values : Values = λ op t. None in
    let w = regular_well_formed values c.args.rules.now c.requires.regular in
    let o = regular_orthogonal values c.args.rules.now c.requires.regular in
    let fails = c.in-Fails.ensures in
    fails_within values c.args.rules.now w o _ c.args.term.now _ c.loop-number.node c.loop-number.last c.in-Fails.failing c.max-last.result (i.followed values w o) fails.1 i.order fails.0 (omega arith)

pub loop-number-preserved : goal.loop-number-preserved
loop-number-preserved c =
    let i = c.loop-number.invariant in
    let fails = c.in-Fails.ensures in
    let later = c.max-last.result in
    let is : later ≡ max c.loop-number.last c.in-Fails.failing = omega arith in
    let a = c.argument_toward-node.ensures in
    let none : Values = λ op t. None in
    let w = regular_well_formed none c.args.rules.now c.requires.regular in
    let o = regular_orthogonal none c.args.rules.now c.requires.regular in
    let within = fails_within none c.args.rules.now w o _ c.args.term.now _ c.loop-number.node c.loop-number.last c.in-Fails.failing later (i.followed none w o) fails.1 i.order fails.0 is in
    let end = end_within c.args.term.now c.loop-number.node i.there in
    let past : c.loop-number.node < later = omega (arith, fails.0) in
    record {
      after = omega (arith, a.place);
      there = omega (arith, within, end, a.before);
      order = a.before;
      followed = λ values w o.
          let x = follow_on values c.args.rules.now w o (nth_subtree c.args.term.now c.args.at) c.args.term.now (c.loop-number.node - c.args.at) c.loop-number.node c.loop-number.last c.in-Fails.failing later (i.followed values w o) fails.1 i.order fails.0 is c.argument_toward-node.result past a in
          let e : c.loop-number.node - c.args.at + (c.argument_toward-node.result - c.loop-number.node) ≡ c.argument_toward-node.result - c.args.at = omega (arith, a.place, i.after) in
          subst (λ z. IsFollowed (system_of values c.args.rules.now) w o (nth_subtree c.args.term.now c.args.at) (nth_subtree c.args.term.now c.argument_toward-node.result) (later - c.argument_toward-node.result) z) e x;
    }

pub returns-then-not-has_result : goal.returns-then-not-has_result
returns-then-not-has_result c =
    λ values by.
    let w = regular_well_formed values c.args.rules.now c.requires.regular in
    let o = regular_orthogonal values c.args.rules.now c.requires.regular in
    let live = live_at c.args.symbols.now c.args.term.now c.loop-number.node c.loop-number.invariant.there c.requires.live in
    stuck_with c.args.symbols.now values by c.args.rules.now c.in-Meets.number (nth_subtree c.args.term.now c.loop-number.node) c.in-Meets.ensures live c.equation.result.now c.equation.ensures w o c.requires.regular
    (nth_subtree c.args.term.now c.args.at) (c.loop-number.last - c.loop-number.node) (c.loop-number.node - c.args.at) (c.loop-number.invariant.followed values w o)
    (λ has. let z = c.has_result.ensures.1 has in cc)

pub returns-in-Meets : goal.returns-in-Meets
returns-in-Meets c =
    λ values by.
    let i = c.loop-number.invariant in
    let f = i.followed values (regular_well_formed values c.args.rules.now c.requires.regular) (regular_orthogonal values c.args.rules.now c.requires.regular) in
    let live = live_at c.args.symbols.now c.args.term.now c.loop-number.node i.there c.requires.live in
    let fit = fits_with c.args.symbols.now values by c.args.rules.now c.in-Meets.number (nth_subtree c.args.term.now c.loop-number.node) c.in-Meets.ensures live c.equation.result.now c.equation.ensures (c.has_result.ensures.0 c.if-not-has_result.false) in
    let n = f.numbered in
    record {
      position = f.prefix;
      demanded = f.redex (fit.redex.0, (c.in-Meets.number, fit.redex.1));
      there = i.there;
      stands = f.there;
      place = omega (arith, n, i.after);
      first = fit;
    }
