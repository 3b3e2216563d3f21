use Rattle.std.proofs.Common.{◌≡◌, ◌+◌, ◌-◌, [], ◌++◌, map, arith, sym, refl, ◌∙◌, ap}
use Rattle.std.proofs.lemmas.List.{append-nil}
use Rattle.eq_base.specs.Tree.{nth_subtree, nth_position, size}
use Rattle.regularity.proofs.Listed.{nth_subtree-zero}
use Rattle.ei_program.proofs.WaysDown.{nth_position-zero}
use Rattle.ei_program.proofs.positions.argument_numbers.Goals as goal

pub loop-at-init : goal.loop-at-init
loop-at-init c =
    let p = c.args.pattern.now in
    let root = nth_subtree-zero p in
    let whole : c.args.node - 0 ≡ c.args.node = omega arith in
    record {
      before = omega arith;
      within = omega (arith, c.requires, ap size root);
      way = rw (root, whole, c.new-numbers.ensures.items) refl;
    }

pub returns : goal.returns
returns c =
    let i = c.loop-at.invariant in
    let s = nth_subtree c.args.pattern.now c.loop-at.at in
    let arrived : c.args.node - c.loop-at.at ≡ 0 = omega (arith, i.before) in
    let rest : nth_position s (c.args.node - c.loop-at.at) ≡ [] = ap (nth_position s) arrived ∙ nth_position-zero s in
    sym (i.way ∙ ap (λ q. c.loop-at.numbers.items ++ map (λ i. i + 1) q) rest ∙ append-nil c.loop-at.numbers.items)
