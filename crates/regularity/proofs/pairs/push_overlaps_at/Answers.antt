use Rattle.std.proofs.Common.{arith, sym, ap, ◌∙◌, subst}
use Rattle.eq_base.specs.Tree.{nth_subtree}
use Rattle.eq_base.specs.Pattern.{IsTested}
use Rattle.eq_base.specs.Cells.{kind_of}
use Rattle.eq_base.specs.Meeting.{in_class_of}
use Rattle.regularity.specs.Common.{HaveCommon}
use Rattle.regularity.specs.Occurrences.{IsTestedPlace}
use Rattle.regularity.specs.Violations.{IsOfTwo}
use Rattle.regularity.proofs.Facings.{kind_of-root_cell}
use Rattle.regularity.proofs.Listed.{well_formed_at, agree_at_part}
use Rattle.regularity.proofs.Order.{lists_found, lists_missed}
use Rattle.regularity.proofs.Twos.{place_there, untested_done, place_done, second_not_single, overlap_here, not_overlap_here}
use Rattle.regularity.proofs.pairs.push_overlaps_at.Goals as goal
use Rattle.regularity.proofs.pairs.push_overlaps_at.Goals.{then-singles-second+then-has_common+in_ok-push, else-singles-second, else-singles-second-via-then-singles-second+else-has_common, else-singles-second-via-else-singles-second}

pub returns-then-not-is_tested : goal.returns-then-not-is_tested
returns-then-not-is_tested c =
    let left = c.equation.result.now.left in
    let not : IsTestedPlace left c.args.place → ⊥ = λ t. let yes = c.is_tested.ensures.1 (subst IsTested (sym (ap kind_of c.cell.ensures.value ∙ kind_of-root_cell (nth_subtree left c.args.place))) t.tested) in let none = c.if-not-is_tested.true in cc in
    untested_done c.args.rules.now c.args.first c.equation.result.now c.equation.ensures c.args.found.now c.args.place not c.requires.before

pub has_common-requires-clause-arities : goal.has_common-requires-clause-arities
has_common-requires-clause-arities c =
    agree_at_part c.args.rules.now c.requires.rules c.args.first c.equation.result.now c.loop-second.second c.equation-then-singles-second.result.now c.equation.ensures c.equation-then-singles-second.ensures c.args.place
    (place_there c.args.rules.now c.args.first c.args.place c.equation.result.now c.equation.ensures c.requires.first)

pub new-requires-clause-place : goal.new-requires-clause-place
new-requires-clause-place c =
    let there = place_there c.args.rules.now c.args.first c.args.place c.equation.result.now c.equation.ensures c.requires.first in
    let small = (well_formed_at c.args.rules.now c.requires.rules c.args.first c.equation.result.now c.equation.ensures).left_size in
    omega arith

pub loop-second-preserved : goal.loop-second-preserved
loop-second-preserved c =
    let rules = c.args.rules.now in
    let e = c.equation.result.now in
    let single = (c.requires.singles.tells c.args.first e c.equation.ensures).0 c.requires.single in
    let found = c.loop-second.found in
    let first = c.args.first in
    let place = c.args.place in
    let second = c.loop-second.second in
    let tested : IsTestedPlace e.left place = record {
      there = place_there rules first place e c.equation.ensures c.requires.first;
      tested = subst IsTested (ap kind_of c.cell.ensures.value ∙ kind_of-root_cell (nth_subtree e.left place)) (c.is_tested.ensures.0 c.if-not-is_tested.false);
    } in
    elim c.if-singles-second.branch [
      | then-singles-second+then-has_common+in_ok-push w ↦ rw (w.found-is, w.in_ok-push.ensures.ok, w.new.ensures)
          (lists_found (IsOfTwo rules) 4 first place second found c.loop-second.invariant
          (overlap_here rules first e c.equation.ensures second w.equation-then-singles-second.result.now w.equation-then-singles-second.ensures place c.requires.below tested single
          ((c.requires.singles.tells second w.equation-then-singles-second.result.now w.equation-then-singles-second.ensures).0 w.if-singles-second.true)
          (subst (λ classes. HaveCommon (in_class_of classes) (nth_subtree e.left place) w.equation-then-singles-second.result.now.left) w.classes.ensures (w.has_common.ensures.0 w.if-has_common.true))))
      | else-singles-second w ↦ rw w.found-is
          (lists_missed (IsOfTwo rules) 4 first place second found c.loop-second.invariant
          (elim w.else-singles-second.branch [
            | else-singles-second-via-then-singles-second+else-has_common v ↦ λ h.
                let yes = v.has_common.ensures.1 (subst (λ classes. HaveCommon (in_class_of classes) (nth_subtree e.left place) v.equation-then-singles-second.result.now.left) (sym v.classes.ensures) (not_overlap_here rules first e c.equation.ensures second v.equation-then-singles-second.result.now v.equation-then-singles-second.ensures place h).1) in let none = v.if-has_common.false in cc
            | else-singles-second-via-else-singles-second v ↦ second_not_single rules c.args.singles.now c.requires.singles 4 first place second v.if-singles-second.false
          ]))
    ]

pub returns : goal.returns
returns c = place_done c.args.rules.now c.args.first c.equation.result.now c.equation.ensures c.loop-second.found c.args.place c.loop-second.second (omega arith) c.loop-second.invariant
