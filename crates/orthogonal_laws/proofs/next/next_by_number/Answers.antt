use Rattle.std.proofs.Common.{◌≡◌, ℕ, ◌+◌, ◌-◌, ◌<◌, ◌≤◌, arith, below_more, sym}
use Rattle.eq_base.specs.Tree.{nth_subtree}
use Rattle.eq_base.specs.Rules.{system_of}
use Rattle.orthogonal_laws.specs.Operations.{Values}
use Rattle.orthogonal_laws.specs.Results.{AreValuesBy}
use Rattle.orthogonal_laws.specs.Orthogonal.{IsWellFormedSystem, IsOrthogonal}
use Rattle.orthogonal_laws.proofs.RegularLists.{regular_well_formed, regular_orthogonal}
use Rattle.orthogonal_laws.proofs.ReadSystems.{number_values, number_values_by}
use Rattle.orthogonal_laws.proofs.FirstDemands.{next_of_fit, none_normal}
use Rattle.orthogonal_laws.proofs.Resting.{IsResting, rests_within, resting_on, rests_same, rests_alone}
use Rattle.orthogonal_laws.specs.Strategy.{HasNoDemandedRedex}
use Rattle.orthogonal_laws.proofs.next.next_by_number.Goals as goal
use Rattle.orthogonal_laws.proofs.next.next_by_number.Goals.{then-at-way+in_default, else-at-way, in-Some-last_failure+then-failing-at, in-Some-last_failure+else-failing-at, in_default-last_failure}

pub returns-in-Some : goal.returns-in-Some
returns-in-Some c =
    λ values by.
    next_of_fit (system_of values c.args.rules.now) (regular_well_formed values c.args.rules.now c.requires.regular) (regular_orthogonal values c.args.rules.now c.requires.regular) c.args.term.now c.loop-at.at c.in-Some.fit (omega arith)
    (c.loop-at.invariant.each values by) (c.in-Some.ensures values by)

pub returns : goal.returns
returns c =
    λ values by.
    none_normal (system_of values c.args.rules.now) (regular_well_formed values c.args.rules.now c.requires.regular) (regular_orthogonal values c.args.rules.now c.requires.regular) c.args.term.now (λ k lt. c.loop-at.invariant.each values by k (omega arith))

pub argument_toward-way-requires-clause-within : goal.argument_toward-way-requires-clause-within
argument_toward-way-requires-clause-within c =
    let rests : (values : Values) → AreValuesBy c.args.symbols.now values → (w : IsWellFormedSystem (system_of values c.args.rules.now)) (o : IsOrthogonal (system_of values c.args.rules.now)) → IsResting values c.args.rules.now w o (nth_subtree c.args.term.now c.loop-at.at) (c.if-at-way.from - c.loop-at.at) =
    λ values by w o. elim c.if-at-way.branch [
      | then-at-way+in_default b ↦ rests_alone values c.args.rules.now w o c.args.term.now c.loop-at.at c.if-at-way.from b.from-is (b.in_default.ensures values by)
      | else-at-way b ↦
          let same : c.loop-at.way ≡ c.loop-at.at = omega arith in
          rests_same values c.args.rules.now w o c.args.term.now c.loop-at.way c.loop-at.at c.loop-at.last c.if-at-way.from same (sym b.from-is) (c.loop-at.invariant.rests (omega arith) (omega arith) values by w o)
    ] in
    let past : c.loop-at.at ≤ c.if-at-way.from = elim c.if-at-way.branch [ then-at-way+in_default b ↦ omega (arith, b.from-is) | else-at-way b ↦ omega (arith, b.from-is, c.loop-at.invariant.order) ] in
    let values = number_values c.args.symbols.now in
    let by = number_values_by c.args.symbols.now c.requires.distinct in
    let w = regular_well_formed values c.args.rules.now c.requires.regular in
    let o = regular_orthogonal values c.args.rules.now c.requires.regular in
    let fails = c.in-Some-last_failure.ensures in
    rests_within values c.args.rules.now w o c.args.term.now c.loop-at.at c.if-at-way.from c.in-Some-last_failure.own c.max-failing.result (rests values by w o) fails.1 past fails.0 c.max-failing.ensures

pub loop-at-preserved : goal.loop-at-preserved
loop-at-preserved c =
    let rests : (values : Values) → AreValuesBy c.args.symbols.now values → (w : IsWellFormedSystem (system_of values c.args.rules.now)) (o : IsOrthogonal (system_of values c.args.rules.now)) → IsResting values c.args.rules.now w o (nth_subtree c.args.term.now c.loop-at.at) (c.if-at-way.from - c.loop-at.at) =
    λ values by w o. elim c.if-at-way.branch [
      | then-at-way+in_default b ↦ rests_alone values c.args.rules.now w o c.args.term.now c.loop-at.at c.if-at-way.from b.from-is (b.in_default.ensures values by)
      | else-at-way b ↦
          let same : c.loop-at.way ≡ c.loop-at.at = omega arith in
          rests_same values c.args.rules.now w o c.args.term.now c.loop-at.way c.loop-at.at c.loop-at.last c.if-at-way.from same (sym b.from-is) (c.loop-at.invariant.rests (omega arith) (omega arith) values by w o)
    ] in
    let past : c.loop-at.at ≤ c.if-at-way.from = elim c.if-at-way.branch [ then-at-way+in_default b ↦ omega (arith, b.from-is) | else-at-way b ↦ omega (arith, b.from-is, c.loop-at.invariant.order) ] in
    let rules = c.args.rules.now in
    let t = c.args.term.now in
    let at = c.loop-at.at in
    let from = c.if-at-way.from in
    let i = c.loop-at.invariant in
    let each : (values : Values) → AreValuesBy c.args.symbols.now values → (k : ℕ) → k < at + 1 → HasNoDemandedRedex (system_of values rules) (nth_subtree t k) =
    λ values by. below_more _ _ (i.each values by) (rests values by (regular_well_formed values rules c.requires.regular) (regular_orthogonal values rules c.requires.regular)).none in
    elim c.match-last_failure.branch [
      | in-Some-last_failure+then-failing-at b ↦
          let a = b.argument_toward-way.ensures in
          let fails = b.in-Some-last_failure.ensures in
          record {
            each = each;
            order = omega (arith, a.before, b.way'-is, b.last-is);
            rests = λ low high values by w o.
                rests_same values rules w o t b.argument_toward-way.result c.match-last_failure.way' b.max-failing.result c.match-last_failure.last (sym b.way'-is) (sym b.last-is)
                (resting_on values rules w o t at from b.in-Some-last_failure.own b.max-failing.result (rests values by w o) fails.1 past fails.0 b.max-failing.ensures b.argument_toward-way.result (omega (arith, b.if-failing-at.true)) a);
          }
      | in-Some-last_failure+else-failing-at b ↦
          record {
            each = each;
            order = omega (arith, i.order, b.way'-is, b.last-is);
            rests = λ low high values by w o.
                rests_same values rules w o t c.loop-at.way c.match-last_failure.way' c.loop-at.last c.match-last_failure.last (sym b.way'-is) (sym b.last-is) (i.rests (omega (arith, low, b.way'-is)) (omega (arith, high, b.way'-is)) values by w o);
          }
      | in_default-last_failure b ↦
          record {
            each = each;
            order = omega (arith, i.order, b.way'-is, b.last-is);
            rests = λ low high values by w o.
                rests_same values rules w o t c.loop-at.way c.match-last_failure.way' c.loop-at.last c.match-last_failure.last (sym b.way'-is) (sym b.last-is) (i.rests (omega (arith, low, b.way'-is)) (omega (arith, high, b.way'-is)) values by w o);
          }
    ]
