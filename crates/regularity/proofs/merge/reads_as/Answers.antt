use Rattle.std.proofs.Common.{◌≡◌, ◌+◌, ◌-◌, arith, refl, sym, ap, ◌∙◌}
use Rattle.eq_base.specs.Tree.{size, nth_subtree}
use Rattle.eq_base.specs.Cells.{variable_in}
use Rattle.eq_base.proofs.Trees.{end_within}
use Rattle.regularity.specs.Occurrences.{OccursAt}
use Rattle.regularity.specs.MergedParts.{part_of_merge}
use Rattle.regularity.proofs.Occurrences.{variable_at_root}
use Rattle.regularity.proofs.Readings.{reads_start, reads_end, inside, part_there, cell_differs, cell_on, part_differs, part_on}
use Rattle.regularity.proofs.merge.reads_as.Goals as goal
use Rattle.regularity.proofs.merge.reads_as.Goals.{In-Some}

pub loop-i-init : goal.loop-i-init
loop-i-init c = reads_start c.args.left.now c.args.other.now (nth_subtree c.args.right.now c.args.at) (nth_subtree c.args.left.now c.args.part.at) c.args.part.name

pub prove-unreachable-requires : goal.prove-unreachable-requires
prove-unreachable-requires c =
    let within = inside c.args.left.now c.args.other.now c.args.right.now c.args.at c.requires.at c.args.part.at c.requires.part c.args.part.name c.loop-i.i c.loop-i.k c.loop-i.invariant (omega (arith, c.end_of-end.ensures)) in
    omega (arith, within, c.end_of-len.ensures)

pub cell-cell-requires : goal.cell-cell-requires
cell-cell-requires c = omega (arith, c.end_of-end.ensures, end_within c.args.right.now c.args.at c.requires.at)

pub overflow_add-here-in-Some : goal.overflow_add-here-in-Some
overflow_add-here-in-Some c = omega (arith, c.requires.name, c.loop-i.invariant.within', c.requires.merge.left_size, end_within c.args.left.now c.args.part.at c.requires.part)

occurs : (c : In-Some) → OccursAt c.args.right.now (c.args.at + c.loop-i.i) c.in-Some.variable
occurs c = record {
  there = omega (arith, c.end_of-end.ensures, end_within c.args.right.now c.args.at c.requires.at);
  is = sym (variable_at_root (nth_subtree c.args.right.now (c.args.at + c.loop-i.i))) ∙ ap variable_in (sym c.cell-cell.ensures.value) ∙ sym c.variable.ensures ∙ c.in-Some.is;
}

pub find-requires-clause-occurs : goal.find-requires-clause-occurs
find-requires-clause-occurs c = c.requires.right (c.args.at + c.loop-i.i) c.in-Some.variable (occurs (goal.at.find-requires-clause-occurs c).In-Some)

pub is_same_part-requires-clause-part : goal.is_same_part-requires-clause-part
is_same_part-requires-clause-part c = part_there c.args.left.now c.args.other.now c.args.right.now c.args.at c.requires.at c.args.part.at c.requires.part c.args.part.name c.loop-i.i c.loop-i.k c.loop-i.invariant (omega (arith, c.end_of-end.ensures))

pub returns-then-not-is_same_part : goal.returns-then-not-is_same_part
returns-then-not-is_same_part c =
    let own = (occurs (goal.at.returns-then-not-is_same_part c).In-Some).is in
    let value = part_of_merge c.args.other.now c.find.result in
    λ θ e. (
      λ answer. cc,
      λ same. absurd (part_differs c.args.left.now c.args.other.now c.args.right.now c.args.at c.requires.at c.args.part.at c.requires.part c.args.part.name c.loop-i.i c.loop-i.k c.loop-i.invariant (omega (arith, c.end_of-end.ensures)) c.in-Some.variable own value c.find.ensures.value
          (λ f. let answer = c.is_same_part.ensures.1 f in let none = c.if-not-is_same_part.true in cc) θ e same),
    )

pub end_of-requires : goal.end_of-requires
end_of-requires c = omega (arith, c.end_of-end.ensures, end_within c.args.right.now c.args.at c.requires.at)

pub end_of-requires-in-Some : goal.end_of-requires-in-Some
end_of-requires-in-Some c = part_there c.args.left.now c.args.other.now c.args.right.now c.args.at c.requires.at c.args.part.at c.requires.part c.args.part.name c.loop-i.i c.loop-i.k c.loop-i.invariant (omega (arith, c.end_of-end.ensures))

pub loop-i-preserved-in-Some : goal.loop-i-preserved-in-Some
loop-i-preserved-in-Some c =
    let own = (occurs (goal.at.loop-i-preserved-in-Some c).In-Some).is in
    let value = part_of_merge c.args.other.now c.find.result in
    let i : c.end_of.result - c.args.at ≡ c.loop-i.i + size (nth_subtree c.args.right.now (c.args.at + c.loop-i.i)) = omega (arith, c.end_of.ensures) in
    let k : c.end_of-in-Some.result - c.args.part.at ≡ c.loop-i.k + size (nth_subtree c.args.left.now (c.args.part.at + c.loop-i.k)) = omega (arith, c.end_of-in-Some.ensures) in
    rw (i, k) (part_on c.args.left.now c.args.other.now c.args.right.now c.args.at c.requires.at c.args.part.at c.requires.part c.args.part.name c.loop-i.i c.loop-i.k c.loop-i.invariant (omega (arith, c.end_of-end.ensures)) c.in-Some.variable own value c.find.ensures.value (c.is_same_part.ensures.0 c.if-not-is_same_part.false))

pub cell-requires : goal.cell-requires
cell-requires c = part_there c.args.left.now c.args.other.now c.args.right.now c.args.at c.requires.at c.args.part.at c.requires.part c.args.part.name c.loop-i.i c.loop-i.k c.loop-i.invariant (omega (arith, c.end_of-end.ensures))

pub returns-then-not-is_same_cell : goal.returns-then-not-is_same_cell
returns-then-not-is_same_cell c =
    λ θ e. (
      λ answer. cc,
      λ same. absurd (cell_differs c.args.left.now c.args.other.now c.args.right.now c.args.at c.requires.at c.args.part.at c.requires.part c.args.part.name c.loop-i.i c.loop-i.k c.loop-i.invariant (omega (arith, c.end_of-end.ensures))
          c.cell-cell.result c.cell.result c.cell-cell.ensures.value c.cell.ensures.value c.cell-cell.ensures.arity c.cell.ensures.arity (sym c.variable.ensures ∙ c.in_default.is)
          (λ f. let answer = c.is_same_cell.ensures.1 f in let none = c.if-not-is_same_cell.true in cc) θ e same),
    )

pub loop-i-preserved : goal.loop-i-preserved
loop-i-preserved c =
    cell_on c.args.left.now c.args.other.now c.args.right.now c.args.at c.requires.at c.args.part.at c.requires.part c.args.part.name c.loop-i.i c.loop-i.k c.loop-i.invariant (omega (arith, c.end_of-end.ensures))
    c.cell-cell.result c.cell.result c.cell-cell.ensures.value c.cell.ensures.value c.cell-cell.ensures.arity c.cell.ensures.arity (sym c.variable.ensures ∙ c.in_default.is)
    (c.is_same_cell.ensures.0 c.if-not-is_same_cell.false)

pub returns : goal.returns
returns c = λ θ e. (λ answer. reads_end c.args.left.now c.args.other.now (nth_subtree c.args.right.now c.args.at) (nth_subtree c.args.left.now c.args.part.at) c.args.part.name c.loop-i.i c.loop-i.k c.loop-i.invariant (omega (arith, c.end_of-end.ensures)) θ e, λ same. refl)
