use Rattle.std.proofs.Common.{arith, refl, subst}
use Rattle.eq_base.specs.Rules.{right_side}
use Rattle.regularity.specs.Occurrences.{IsUnbound}
use Rattle.regularity.specs.Restrictions.{HasUnbound}
use Rattle.regularity.proofs.Singles.{operation_bound}
use Rattle.regularity.proofs.single.is_bound.Goals as goal

pub returns-in_default : goal.returns-in_default
returns-in_default c = (λ yes. operation_bound c.args.equation.now.left c.args.equation.now.right (λ p is. c.in_default.not-Tree _ is), λ none. refl)

pub returns-then-is_unbound : goal.returns-then-is_unbound
returns-then-is_unbound c = (λ yes. cc, λ none. absurd (none c.loop-place.place (rw c.in-Tree.is (c.is_unbound.ensures.0 c.if-is_unbound.true))))

pub returns : goal.returns
returns c = (λ yes k u. let v : IsUnbound c.args.equation.now.left c.in-Tree.right k = subst (λ r. HasUnbound c.args.equation.now.left (right_side r) k) c.in-Tree.is u in c.loop-place.invariant k (omega (arith, v.here.there)) v, λ none. refl)
