use Rattle.std.proofs.Common.{◌≡◌, ◌+◌, ◌-◌, ◌∷◌, map, arith, sym, ◌∙◌, ap}
use Rattle.eq_base.specs.Tree.{nth_subtree, nth_position, size}
use Rattle.eq_base.proofs.Trees.{argument_of, argument_of-within, argument_of-more}
use Rattle.eq_base.proofs.Numbers.{has_node}
use Rattle.eq_base.proofs.Arguments.{has_more}
use Rattle.ei_program.proofs.WaysDown.{way_on}
use Rattle.ei_program.proofs.positions.argument_toward.Goals as goal

pub loop-argument-init : goal.loop-argument-init
loop-argument-init c =
    record { i = 0; there = has_more (nth_subtree c.args.pattern.now c.args.at) 0 (omega arith); place = omega arith; before = omega arith; number = omega arith; few = omega arith }

pub end_of-requires : goal.end_of-requires
end_of-requires c = let i = c.loop-argument.invariant in let z = argument_of-within c.args.pattern.now c.args.at i.i c.requires.at i.there in omega (arith, z)

pub end_of-argument-requires : goal.end_of-argument-requires
end_of-argument-requires c = let i = c.loop-argument.invariant in let z = argument_of-within c.args.pattern.now c.args.at i.i c.requires.at i.there in omega (arith, z)

pub overflow_add-number : goal.overflow_add-number
overflow_add-number c = let i = c.loop-argument.invariant in omega (arith, i.few, has_node (nth_subtree c.args.pattern.now c.loop-argument.argument))

pub loop-argument-smaller : goal.loop-argument-smaller
loop-argument-smaller c =
    let i = c.loop-argument.invariant in
    let z = argument_of-within c.args.pattern.now c.args.at i.i c.requires.at i.there in
    omega (arith, z, has_node (nth_subtree c.args.pattern.now c.loop-argument.argument))

pub loop-argument-preserved : goal.loop-argument-preserved
loop-argument-preserved c =
    let i = c.loop-argument.invariant in
    let more = argument_of-more c.args.pattern.now c.args.at i.i c.requires.at i.there in
    let same : size (nth_subtree c.args.pattern.now (argument_of c.args.pattern.now c.args.at i.i)) ≡ size (nth_subtree c.args.pattern.now c.loop-argument.argument) = ap (λ z. size (nth_subtree c.args.pattern.now z)) (sym i.place) in
    record {
      i = i.i + 1;
      there = has_more (nth_subtree c.args.pattern.now c.args.at) (i.i + 1) (omega (arith, more, same));
      place = omega (arith, more, same);
      before = omega arith;
      number = omega arith;
      few = omega (arith, has_node (nth_subtree c.args.pattern.now c.loop-argument.argument));
    }

pub returns-clause-way : goal.returns-clause-way
returns-clause-way c =
    let i = c.loop-argument.invariant in
    let way = way_on c.args.pattern.now c.args.at i.i c.loop-argument.argument c.args.node c.requires.at i.there i.place i.before (omega arith) in
    ap (map (λ i. i + 1)) way ∙ ap (λ n. n ∷ map (λ i. i + 1) (nth_position (nth_subtree c.args.pattern.now c.loop-argument.argument) (c.args.node - c.loop-argument.argument))) (sym i.number)
