use Rattle.std.proofs.Common.{arith}
use Rattle.eq_base.specs.Tree.{nth_subtree}
use Rattle.eq_base.specs.Meeting.{in_class_of}
use Rattle.regularity.specs.declared.facing.Facing.TheVariants as facing
use Rattle.regularity.proofs.Scan.{part_start, part_there, part_down, part_past, part_end}
use Rattle.regularity.proofs.Facings.{faced}
use Rattle.sequentiality.proofs.Agreeing.{Agree, same_heads_agree, agree_at}
use Rattle.sequentiality.proofs.Found.{first_clash, first_mismatch}
use Rattle.sequentiality.proofs.comparison.compare.Goals as goal

pub loop-beside-init : goal.loop-beside-init
loop-beside-init c = part_start c.args.left.now c.args.place c.requires.place c.args.other.now _ c.requires.arities

pub prove-unreachable-requires : goal.prove-unreachable-requires
prove-unreachable-requires c =
    let there = part_there c.args.left.now c.args.place c.requires.place c.args.other.now _ c.loop-beside.at c.loop-beside.beside c.loop-beside.invariant (omega arith) in
    omega arith

pub returns-in-Clash : goal.returns-in-Clash
returns-in-Clash c =
    let left = c.args.left.now in
    let other = c.args.other.now in
    first_clash (in_class_of c.args.classes.now) left c.args.place c.requires.place other c.loop-beside.at c.loop-beside.beside c.loop-beside.invariant (omega arith)
    (faced c.args.classes.now (nth_subtree left c.loop-beside.at) (nth_subtree other c.loop-beside.beside) _ _ _ facing.Clash c.cell.ensures.value c.cell-in-loop-beside.ensures.value c.in-Clash.is c.facing_of.ensures)

pub returns-in-Mismatch : goal.returns-in-Mismatch
returns-in-Mismatch c =
    let left = c.args.left.now in
    let other = c.args.other.now in
    first_mismatch (in_class_of c.args.classes.now) left c.args.place c.requires.place other c.loop-beside.at c.loop-beside.beside c.loop-beside.invariant (omega arith)
    (faced c.args.classes.now (nth_subtree left c.loop-beside.at) (nth_subtree other c.loop-beside.beside) _ _ _ facing.Mismatch c.cell.ensures.value c.cell-in-loop-beside.ensures.value c.in-Mismatch.is c.facing_of.ensures)

pub loop-beside-preserved-in-SameHead : goal.loop-beside-preserved-in-SameHead
loop-beside-preserved-in-SameHead c =
    let left = c.args.left.now in
    let other = c.args.other.now in
    let same = faced c.args.classes.now (nth_subtree left c.loop-beside.at) (nth_subtree other c.loop-beside.beside) _ _ _ facing.SameHead c.cell.ensures.value c.cell-in-loop-beside.ensures.value c.in-SameHead.is c.facing_of.ensures in
    part_down left c.args.place c.requires.place other _ c.loop-beside.at c.loop-beside.beside c.loop-beside.invariant (omega arith) (same_heads_agree (in_class_of c.args.classes.now) _ _ same) same

pub loop-beside-preserved : goal.loop-beside-preserved
loop-beside-preserved c =
    let left = c.args.left.now in
    let other = c.args.other.now in
    let quiet = faced c.args.classes.now (nth_subtree left c.loop-beside.at) (nth_subtree other c.loop-beside.beside) _ _ _ facing.Variable c.cell.ensures.value c.cell-in-loop-beside.ensures.value c.in-Variable.is c.facing_of.ensures in
    rw (c.end_of-at.ensures, c.end_of-beside.ensures) (part_past left c.args.place c.requires.place other _ c.loop-beside.at c.loop-beside.beside c.loop-beside.invariant (omega arith) (quiet.no_clash, quiet.no_mismatch) quiet.variable)

pub returns : goal.returns
returns c =
    let part = nth_subtree c.args.left.now c.args.place in
    let other = c.args.other.now in
    let all = part_end c.args.left.now c.args.place c.requires.place other (Agree (in_class_of c.args.classes.now)) c.loop-beside.at c.loop-beside.beside c.loop-beside.invariant (omega arith) in
    λ q. agree_at (in_class_of c.args.classes.now) part other q (all q)
