use Rattle.std.proofs.Common.{arith, sym, subst}
use Rattle.regularity.proofs.Listed.{well_formed_at, agree_at_root}
use Rattle.regularity.proofs.Order.{lists_found, lists_missed}
use Rattle.regularity.specs.Violations.{AreAmbiguous, IsOfTwo}
use Rattle.regularity.proofs.Twos.{ambiguous_start, ambiguous_done, first_not_single, second_not_single, ambiguous_here, not_ambiguous_here}
use Rattle.regularity.proofs.pairs.push_ambiguous.Goals as goal
use Rattle.regularity.proofs.pairs.push_ambiguous.Goals.{then-singles-second+then-are_ambiguous+in_ok-push, else-singles-second, else-singles-second-via-then-singles-second+else-are_ambiguous, else-singles-second-via-else-singles-second}

pub returns-then-not-singles-first : goal.returns-then-not-singles-first
returns-then-not-singles-first c = first_not_single c.args.rules.now c.args.singles.now c.requires.singles 3 c.args.first c.args.found.now c.if-not-singles-first.true c.requires.before

pub loop-second-init : goal.loop-second-init
loop-second-init c = ambiguous_start c.args.rules.now c.args.first c.equation-one.result.now c.equation-one.ensures c.args.found.now c.requires.before

pub are_ambiguous-requires-clause-arities : goal.are_ambiguous-requires-clause-arities
are_ambiguous-requires-clause-arities c = agree_at_root c.args.rules.now c.requires.rules c.args.first c.equation-one.result.now c.loop-second.second c.equation.result.now c.equation-one.ensures c.equation.ensures

pub are_ambiguous-requires-clause-one : goal.are_ambiguous-requires-clause-one
are_ambiguous-requires-clause-one c = (well_formed_at c.args.rules.now c.requires.rules c.args.first c.equation-one.result.now c.equation-one.ensures, (c.requires.singles.tells c.args.first c.equation-one.result.now c.equation-one.ensures).0 c.if-not-singles-first.false)

pub are_ambiguous-requires-clause-other : goal.are_ambiguous-requires-clause-other
are_ambiguous-requires-clause-other c = (well_formed_at c.args.rules.now c.requires.rules c.loop-second.second c.equation.result.now c.equation.ensures, (c.requires.singles.tells c.loop-second.second c.equation.result.now c.equation.ensures).0 c.if-singles-second.true)

pub loop-second-preserved : goal.loop-second-preserved
loop-second-preserved c =
    let rules = c.args.rules.now in
    let e = c.equation-one.result.now in
    let single = (c.requires.singles.tells c.args.first e c.equation-one.ensures).0 c.if-not-singles-first.false in
    let found = c.loop-second.found in
    let first = c.args.first in
    let second = c.loop-second.second in
    elim c.if-singles-second.branch [
      | then-singles-second+then-are_ambiguous+in_ok-push w ↦ rw (w.found-is, w.in_ok-push.ensures.ok, w.new.ensures)
          (lists_found (IsOfTwo rules) 3 first 0 second found c.loop-second.invariant
          (ambiguous_here rules first e c.equation-one.ensures second w.equation.result.now w.equation.ensures (omega arith) single
          ((c.requires.singles.tells second w.equation.result.now w.equation.ensures).0 w.if-singles-second.true)
          (subst (λ classes. AreAmbiguous classes e w.equation.result.now) w.classes.ensures (w.are_ambiguous.ensures.0 w.if-are_ambiguous.true))))
      | else-singles-second w ↦ rw w.found-is
          (lists_missed (IsOfTwo rules) 3 first 0 second found c.loop-second.invariant
          (elim w.else-singles-second.branch [
            | else-singles-second-via-then-singles-second+else-are_ambiguous v ↦ λ h.
                let yes = v.are_ambiguous.ensures.1 (subst (λ classes. AreAmbiguous classes e v.equation.result.now) (sym v.classes.ensures) (not_ambiguous_here rules first e c.equation-one.ensures second v.equation.result.now v.equation.ensures h).1) in let no = v.if-are_ambiguous.false in cc
            | else-singles-second-via-else-singles-second v ↦ second_not_single rules c.args.singles.now c.requires.singles 3 first 0 second v.if-singles-second.false
          ]))
    ]

pub returns : goal.returns
returns c = ambiguous_done c.args.rules.now c.args.first c.equation-one.result.now c.equation-one.ensures c.loop-second.found c.loop-second.second (omega arith) c.loop-second.invariant
