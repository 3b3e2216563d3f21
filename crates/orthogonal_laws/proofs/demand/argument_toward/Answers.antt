use Rattle.std.proofs.Common.{◌≡◌, ◌+◌, arith, sym, ◌∙◌, ap, Some}
use Rattle.eq_base.specs.Tree.{nth_subtree, size}
use Rattle.eq_base.proofs.Trees.{argument_of, argument_of-within, subtree_at-argument_of, argument_of-more}
use Rattle.eq_base.proofs.Numbers.{has_node}
use Rattle.eq_base.proofs.Arguments.{has_more, place_of}
use Rattle.orthogonal_laws.proofs.demand.argument_toward.Goals as goal

pub loop-argument-init : goal.loop-argument-init
loop-argument-init c =
    record { i = 0; there = has_more (nth_subtree c.args.term.now c.args.at) 0 (omega arith); place = omega arith; before = omega arith }

pub end_of-requires : goal.end_of-requires
end_of-requires c = let i = c.loop-argument.invariant in let z = argument_of-within c.args.term.now c.args.at i.i c.requires.at i.there in omega (arith, z)

pub end_of-argument-requires : goal.end_of-argument-requires
end_of-argument-requires c = let i = c.loop-argument.invariant in let z = argument_of-within c.args.term.now c.args.at i.i c.requires.at i.there in omega (arith, z)

pub loop-argument-smaller : goal.loop-argument-smaller
loop-argument-smaller c =
    let i = c.loop-argument.invariant in
    let z = argument_of-within c.args.term.now c.args.at i.i c.requires.at i.there in
    omega (arith, z, has_node (nth_subtree c.args.term.now c.loop-argument.argument))

pub loop-argument-preserved : goal.loop-argument-preserved
loop-argument-preserved c =
    let i = c.loop-argument.invariant in
    let more = argument_of-more c.args.term.now c.args.at i.i c.requires.at i.there in
    let same : size (nth_subtree c.args.term.now (argument_of c.args.term.now c.args.at i.i)) ≡ size (nth_subtree c.args.term.now c.loop-argument.argument) = ap (λ z. size (nth_subtree c.args.term.now z)) (sym i.place) in
    record {
      i = i.i + 1;
      there = has_more (nth_subtree c.args.term.now c.args.at) (i.i + 1) (omega (arith, more, same));
      place = omega (arith, more, same);
      before = omega arith;
    }

pub returns : goal.returns
returns c =
    let i = c.loop-argument.invariant in
    let there = subtree_at-argument_of c.args.term.now c.args.at i.i c.requires.at i.there in
    let same = ap (λ z. nth_subtree c.args.term.now z) (sym i.place) in
    let n = place_of (nth_subtree c.args.term.now c.args.at) i.i _ there in
    record { i = i.i; stands = there ∙ ap Some same; place = omega (arith, n); before = i.before; within = omega arith }
