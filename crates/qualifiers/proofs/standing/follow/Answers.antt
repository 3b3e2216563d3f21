use Rattle.std.proofs.Common.{◌≡◌, ◌<◌, [], ◌∷◌, ◌++◌, length, sym, subst, arith, refl}
use Rattle.std.specs.Prelude.{slice_index}
use Rattle.std.specs.List.{AllByRecursion}
use Rattle.std.proofs.lemmas.Option.{slice_get_within}
use Rattle.eq_base.proofs.Lists.{all_map, all_push}
use Rattle.qualifiers.specs.Standing.{StandsFor}
use Rattle.qualifiers.proofs.Targets.{stands_for_itself, stands_for_then}
use Rattle.qualifiers.proofs.standing.follow.Goals as goal

pub loop-init : goal.loop-init
loop-init c = record { within = c.requires.start; way = subst (AllByRecursion (λ i. StandsFor c.args.qualifiers.now i c.args.start)) (sym c.requires.way) tt }

pub bounds-targets-next : goal.bounds-targets-next
bounds-targets-next c = omega (arith, c.requires.targets.len, slice_get_within c.args.qualifiers.now c.in-Some.next c.in-Some.ensures.second c.in-Some.ensures.at_other)

pub returns-in_default : goal.returns-in_default
returns-in_default c =
    let qs = c.args.qualifiers.now in
    subst (AllByRecursion (λ i. StandsFor qs i c.loop.last)) (sym c.in_ok-push.ensures.items) (all_push (λ i. StandsFor qs i c.loop.last) c.loop.way.items c.loop.last c.loop.invariant.way (stands_for_itself qs c.loop.last c.loop.invariant.within))

pub loop-preserved : goal.loop-preserved
loop-preserved c =
    let qs = c.args.qualifiers.now in
    let here = c.loop.last in
    let next = c.in-Some.next in
    let end = slice_index c.args.targets.now next in
    let lt : next < length qs = slice_get_within qs next c.in-Some.ensures.second c.in-Some.ensures.at_other in
    let further = c.requires.targets.each next lt in
    let way = all_push (λ i. StandsFor qs i here) c.loop.way.items here c.loop.invariant.way (stands_for_itself qs here c.loop.invariant.within) in
    record {
      within = slice_get_within qs end further.second further.at_other;
      way = subst (AllByRecursion (λ i. StandsFor qs i end)) (sym c.in_ok-push.ensures.items)
          (all_map (λ i. StandsFor qs i here) (λ i. StandsFor qs i end) (c.loop.way.items ++ here ∷ []) (λ i s. stands_for_then qs i here end s (stands_for_then qs here next end c.in-Some.ensures further)) way);
    }

pub returns : goal.returns
returns c = c.loop.invariant.way
