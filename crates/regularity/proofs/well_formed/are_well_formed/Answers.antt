use Rattle.std.proofs.Common.{◌≡◌, true, length, arith, refl, ap, subst}
use Rattle.regularity.specs.WellFormed.{arity_by, GivesConstantsNone}
use Rattle.regularity.proofs.Tables.{each_more}
use Rattle.regularity.proofs.well_formed.are_well_formed.Goals as goal

pub loop-number-preserved : goal.loop-number-preserved
loop-number-preserved c =
    each_more c.args.arities.now c.args.rules.now.equations c.loop-number.number c.equation.result.now c.equation.ensures (c.is_well_formed.ensures.0 (let yes : c.is_well_formed.result ≡ true = cc in yes)) c.loop-number.invariant

pub returns-clause-exact : goal.returns-clause-exact
returns-clause-exact c = (
  λ yes. record {
    few = omega arith;
    few_classes = omega (arith, ap length c.classes-classes.ensures);
    each = λ k e lt. c.loop-number.invariant k e (omega arith);
    constants = subst (GivesConstantsNone c.args.arities.now) c.classes-classes.ensures (c.gives_constants_none.ensures.0 (let yes : c.gives_constants_none.result ≡ true = cc in yes));
  },
  λ w. refl,
)

pub returns-clause-well_formed : goal.returns-clause-well_formed
returns-clause-well_formed c all = record {
  few = omega arith;
  each = λ k e lt. (c.loop-number.invariant k e (omega arith)).well_formed;
  arity = arity_by c.args.arities.now;
  arities = λ k e lt. (c.loop-number.invariant k e (omega arith)).arities;
  constants = subst (GivesConstantsNone c.args.arities.now) c.classes-classes.ensures (c.gives_constants_none.ensures.0 (let yes : c.gives_constants_none.result ≡ true = cc in yes));
}
