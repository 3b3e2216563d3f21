use Rattle.std.proofs.Common.{◌≡◌, ℕ, ◌+◌, ◌-◌, ◌/◌, Some, arith, refl, subst}
use Rattle.std.specs.Prelude.{slice_get}
use Rattle.regularity.proofs.Order.{behind, in_front, neither_precedes, contains_get, get_contains}
use Rattle.regularity.proofs.breaks.Breaks.has.Goals as goal

pub returns-else-precedes-2 : goal.returns-else-precedes-2
returns-else-precedes-2 c =
    let middle : ℕ = c.loop-from.from + (c.loop-from.to - c.loop-from.from) / 2 in
    let same = neither_precedes c.get-here.result c.args.wanted
    (λ less. let yes = c.precedes.ensures.1 less in let none = c.if-precedes.false in cc)
    (λ more. let yes = c.precedes-else-precedes.ensures.1 more in let none = c.if-precedes-2.false in cc) in
    (λ answer. get_contains c.args.self.now middle c.args.wanted (subst (λ b. slice_get c.args.self.now middle ≡ Some b) same c.get-here.ensures), λ has. refl)

pub loop-from-preserved-then-precedes : goal.loop-from-preserved-then-precedes
loop-from-preserved-then-precedes c = record {
  within = c.loop-from.invariant.within;
  there = λ k e. (behind c.args.self.now c.requires _ k c.get-here.result c.args.wanted c.get-here.ensures e (c.precedes.ensures.0 c.if-precedes.true), (c.loop-from.invariant.there k e).1);
}

pub loop-from-preserved : goal.loop-from-preserved
loop-from-preserved c = record {
  within = omega (arith, c.loop-from.invariant.within);
  there = λ k e. ((c.loop-from.invariant.there k e).0, in_front c.args.self.now c.requires _ k c.get-here.result c.args.wanted c.get-here.ensures e (c.precedes-else-precedes.ensures.0 c.if-precedes-2.true));
}

pub returns : goal.returns
returns c = (λ yes. cc, λ has. let at = contains_get c.args.self.now c.args.wanted has in let w = c.loop-from.invariant.there at.0 at.1 in absurd (omega (arith, w.0, w.1)))
