use Rattle.std.proofs.Common.{◌≡◌, ◌<◌, arith, sym, ap, ◌∙◌, subst}
use Rattle.eq_base.specs.Tree.{nth_subtree}
use Rattle.regularity.specs.Looking.{ListsBefore}
use Rattle.eq_base.specs.Pattern.{IsTested}
use Rattle.eq_base.specs.Cells.{kind_of}
use Rattle.eq_base.specs.Meeting.{in_class_of}
use Rattle.regularity.specs.Occurrences.{IsTestedPlace}
use Rattle.regularity.proofs.Facings.{kind_of-root_cell}
use Rattle.regularity.proofs.Listed.{well_formed_at, agree_at_part}
use Rattle.regularity.proofs.Order.{lists_found, lists_missed}
use Rattle.sequentiality.specs.Comparing.{HasFirstMismatch}
use Rattle.sequentiality.specs.Violations.{IsNotSequential}
use Rattle.sequentiality.proofs.Sequence.{place_there, untested_done, root_start, place_done, second_not_single, not_sequential_here, mismatch_here, told_listed, listed_told}
use Rattle.sequentiality.proofs.order.push_breaks_at.Goals as goal
use Rattle.sequentiality.proofs.order.push_breaks_at.Goals.{then-place-eq0, else-place-eq0, then-singles-second+then-mismatches+then-not-is_told+in_ok-push, else-singles-second, else-singles-second-via-then-singles-second+then-mismatches+else-not-is_told, else-singles-second-via-then-singles-second+else-mismatches, else-singles-second-via-else-singles-second}

pub returns-then-not-is_tested : goal.returns-then-not-is_tested
returns-then-not-is_tested c =
    let left = c.equation.result.now.left in
    let not : IsTestedPlace left c.args.place → ⊥ = λ t. let answer = c.is_tested.ensures.1 (subst IsTested (sym (ap kind_of c.cell.ensures.value ∙ kind_of-root_cell (nth_subtree left c.args.place))) t.tested) in let none = c.if-not-is_tested.true in cc in
    untested_done c.args.rules.now c.args.first c.equation.result.now c.equation.ensures c.args.found.now c.args.place not c.requires.before

pub loop-second-init : goal.loop-second-init
loop-second-init c =
    elim c.if-place-eq0.branch [
      | then-place-eq0 w ↦
          let root : c.args.place ≡ 0 = w.if-place-eq0.true in
          rw (w.from-is, root) (root_start c.args.rules.now c.args.first c.args.found.now (subst (λ p. ListsBefore (IsNotSequential c.args.rules.now) 5 c.args.first p 0 c.args.found.now) root c.requires.before))
      | else-place-eq0 w ↦ rw w.from-is c.requires.before
    ]

pub mismatches-requires-clause-arities : goal.mismatches-requires-clause-arities
mismatches-requires-clause-arities c =
    agree_at_part c.args.rules.now c.requires.rules c.args.first c.equation.result.now c.loop-second.second c.equation-then-singles-second.result.now c.equation.ensures c.equation-then-singles-second.ensures c.args.place
    (place_there c.args.rules.now c.args.first c.args.place c.equation.result.now c.equation.ensures c.requires.first)

pub is_told-requires-clause-place : goal.is_told-requires-clause-place
is_told-requires-clause-place c =
    let there = place_there c.args.rules.now c.args.first c.args.place c.equation.result.now c.equation.ensures c.requires.first in
    let small = (well_formed_at c.args.rules.now c.requires.rules c.args.first c.equation.result.now c.equation.ensures).left_size in
    omega arith

pub new-requires-clause-place : goal.new-requires-clause-place
new-requires-clause-place c =
    let there = place_there c.args.rules.now c.args.first c.args.place c.equation.result.now c.equation.ensures c.requires.first in
    let small = (well_formed_at c.args.rules.now c.requires.rules c.args.first c.equation.result.now c.equation.ensures).left_size in
    omega arith

pub loop-second-preserved : goal.loop-second-preserved
loop-second-preserved c =
    let rules = c.args.rules.now in
    let e = c.equation.result.now in
    let single = (c.requires.singles.tells c.args.first e c.equation.ensures).0 c.requires.single in
    let found = c.loop-second.found in
    let first = c.args.first in
    let place = c.args.place in
    let second = c.loop-second.second in
    let tested : IsTestedPlace e.left place = record {
      there = place_there rules first place e c.equation.ensures c.requires.first;
      tested = subst IsTested (ap kind_of c.cell.ensures.value ∙ kind_of-root_cell (nth_subtree e.left place)) (c.is_tested.ensures.0 c.if-not-is_tested.false);
    } in
    let order : place ≡ 0 → first < second = λ root. elim c.if-place-eq0.branch [
      | then-place-eq0 w ↦ omega (arith, w.from-is, c.loop-second.auto.second)
      | else-place-eq0 w ↦ absurd (w.if-place-eq0.false root)
    ] in
    elim c.if-singles-second.branch [
      | then-singles-second+then-mismatches+then-not-is_told+in_ok-push w ↦ rw (w.found-is, w.in_ok-push.ensures.ok, w.new.ensures)
          (lists_found (IsNotSequential rules) 5 first place second found c.loop-second.invariant
          (not_sequential_here rules first e c.equation.ensures second w.equation-then-singles-second.result.now w.equation-then-singles-second.ensures place order tested single
          ((c.requires.singles.tells second w.equation-then-singles-second.result.now w.equation-then-singles-second.ensures).0 w.if-singles-second.true)
          (subst (λ classes. HasFirstMismatch (in_class_of classes) (nth_subtree e.left place) w.equation-then-singles-second.result.now.left) w.classes.ensures (w.mismatches.ensures.0 w.if-mismatches.true))
          (λ told. let answer = w.is_told.ensures.1 (told_listed rules c.args.earlier.now c.requires.earlier first place second told) in let none = w.if-not-is_told.true in cc)))
      | else-singles-second w ↦ rw w.found-is
          (lists_missed (IsNotSequential rules) 5 first place second found c.loop-second.invariant
          (elim w.else-singles-second.branch [
            | else-singles-second-via-then-singles-second+then-mismatches+else-not-is_told v ↦ λ h. h.not_told (listed_told rules c.args.earlier.now c.requires.earlier first place second (v.is_told.ensures.0 v.if-not-is_told.false))
            | else-singles-second-via-then-singles-second+else-mismatches v ↦ λ h.
                let answer = v.mismatches.ensures.1 (subst (λ classes. HasFirstMismatch (in_class_of classes) (nth_subtree e.left place) v.equation-then-singles-second.result.now.left) (sym v.classes.ensures) (mismatch_here rules first e c.equation.ensures second v.equation-then-singles-second.result.now v.equation-then-singles-second.ensures place h)) in let none = v.if-mismatches.false in cc
            | else-singles-second-via-else-singles-second v ↦ second_not_single rules c.args.singles.now c.requires.singles first place second v.if-singles-second.false
          ]))
    ]

pub returns : goal.returns
returns c = place_done c.args.rules.now c.args.first c.loop-second.found c.args.place c.loop-second.second (omega arith) c.loop-second.invariant
