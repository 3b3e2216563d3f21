use Rattle.std.proofs.Common.{None, arith, subst, ◌≡◌, ◌≤◌, ◌-◌}
use Rattle.eq_base.specs.Tree.{nth_subtree}
use Rattle.eq_base.specs.Pattern.{IsInstanceOf}
use Rattle.eq_base.specs.Meeting.{in_class_of}
use Rattle.orthogonal_laws.specs.Matching.{FailsAt}
use Rattle.orthogonal_laws.proofs.Failures.{failing_not_met, fails_none, fails_more, fails_all, FailsSoFar}
use Rattle.orthogonal_laws.proofs.RegularLists.{left_linear}
use Rattle.orthogonal_laws.proofs.matching.look_at.Goals as goal

pub loop-equation-init : goal.loop-equation-init
loop-equation-init c =
    let e : 0 ≡ c.args.at - c.args.at = omega arith in
    record { past = omega arith; failures = subst (λ z. FailsSoFar c.args.rules.now 0 (nth_subtree c.args.term.now c.args.at) z) e (fails_none c.args.rules.now (nth_subtree c.args.term.now c.args.at)) }

pub first_mismatch-requires-clause-linear : goal.first_mismatch-requires-clause-linear
first_mismatch-requires-clause-linear c = left_linear (λ op t. None) c.args.rules.now c.requires.regular c.loop-equation.equation c.equation.result.now c.equation.ensures

pub returns-in-None : goal.returns-in-None
returns-in-None c = record {
  equation = c.equation.result.now;
  listed = c.equation.ensures;
  met = subst (λ classes. IsInstanceOf (in_class_of classes) c.equation.result.now.left (nth_subtree c.args.term.now c.args.at)) c.classes.ensures c.in-None.ensures;
  first = λ k e lt there i. let f = c.loop-equation.invariant.failures.each k e lt there in failing_not_met c.args.rules.now.classes e.left (nth_subtree c.args.term.now c.args.at) f.0 f.1 i;
}

pub loop-equation-preserved : goal.loop-equation-preserved
loop-equation-preserved c =
    let fails = subst (λ classes. (c.args.at ≤ c.in-Some.node) × FailsAt classes c.equation.result.now.left (nth_subtree c.args.term.now c.args.at) (c.in-Some.node - c.args.at)) c.classes.ensures c.in-Some.ensures in
    let i = c.loop-equation.invariant in
    record {
      past = omega arith;
      failures = fails_more c.args.rules.now c.loop-equation.equation c.equation.result.now c.equation.ensures (nth_subtree c.args.term.now c.args.at) _ _ _ i.failures fails.1 (omega (arith, fails.0));
    }

pub returns : goal.returns
returns c = (c.loop-equation.invariant.past, fails_all c.args.rules.now c.loop-equation.equation _ _ c.loop-equation.invariant.failures (omega arith))
