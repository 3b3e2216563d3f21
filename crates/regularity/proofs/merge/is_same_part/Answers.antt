use Rattle.std.proofs.Common.{arith, refl}
use Rattle.eq_base.specs.Tree.{nth_subtree}
use Rattle.eq_base.proofs.Trees.{end_within}
use Rattle.regularity.proofs.Merging.{parts_start, parts_end, whole_there, whole_differ, whole_on}
use Rattle.regularity.proofs.merge.is_same_part.Goals as goal

pub overflow_add-other_part : goal.overflow_add-other_part
overflow_add-other_part c =
    let there = whole_there c.args.one.now c.args.part.at c.requires.part c.args.other.now c.args.other_part.at c.requires.other_part c.args.part.name c.args.other_part.name c.loop-i.i c.loop-i.invariant (omega arith) in
    omega arith

pub prove-unreachable-requires : goal.prove-unreachable-requires
prove-unreachable-requires c =
    let there = whole_there c.args.one.now c.args.part.at c.requires.part c.args.other.now c.args.other_part.at c.requires.other_part c.args.part.name c.args.other_part.name c.loop-i.i c.loop-i.invariant (omega arith) in
    omega arith

pub cell-cell-requires : goal.cell-cell-requires
cell-cell-requires c = omega (arith, end_within c.args.one.now c.args.part.at c.requires.part)

pub returns-then-not-is_same_cell : goal.returns-then-not-is_same_cell
returns-then-not-is_same_cell c = (
  λ same. cc,
  λ same. absurd (whole_differ c.args.one.now c.args.part.at c.requires.part c.args.other.now c.args.other_part.at c.requires.other_part c.args.part.name c.args.other_part.name c.loop-i.i c.loop-i.invariant (omega arith)
      c.cell-cell.result c.cell-other_cell.result c.cell-cell.ensures.value c.cell-other_cell.ensures.value c.cell-cell.ensures.arity c.cell-other_cell.ensures.arity
      (λ e. let answer = c.is_same_cell.ensures.1 e in let none = c.if-not-is_same_cell.true in cc) same),
)

pub loop-i-preserved : goal.loop-i-preserved
loop-i-preserved c =
    whole_on c.args.one.now c.args.part.at c.requires.part c.args.other.now c.args.other_part.at c.requires.other_part c.args.part.name c.args.other_part.name c.loop-i.i c.loop-i.invariant (omega arith)
    c.cell-cell.result c.cell-other_cell.result c.cell-cell.ensures.value c.cell-other_cell.ensures.value c.cell-cell.ensures.arity c.cell-other_cell.ensures.arity
    (c.is_same_cell.ensures.0 c.if-not-is_same_cell.false)

pub loop-i-init : goal.loop-i-init
loop-i-init c = parts_start c.args.part.name (nth_subtree c.args.one.now c.args.part.at) c.args.other_part.name (nth_subtree c.args.other.now c.args.other_part.at)

pub returns : goal.returns
returns c = (λ answer. parts_end c.args.part.name (nth_subtree c.args.one.now c.args.part.at) c.args.other_part.name (nth_subtree c.args.other.now c.args.other_part.at) c.loop-i.i c.loop-i.invariant (omega arith), λ same. refl)
