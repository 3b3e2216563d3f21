use Rattle.std.proofs.Common.{arith, refl}
use Rattle.eq_base.specs.Tree.{nth_subtree}
use Rattle.eq_base.specs.Meeting.{in_class_of}
use Rattle.regularity.specs.Facing.{DoClash}
use Rattle.regularity.specs.declared.facing.Facing.TheVariants as facing
use Rattle.regularity.proofs.Scan.{part_start, part_there, part_here, part_down, part_past, part_end}
use Rattle.regularity.proofs.Facings.{faced, same_head_no_clash, passed}
use Rattle.regularity.proofs.Clashes.{clash_at, do_clash}
use Rattle.regularity.proofs.common.has_common.Goals as goal

pub loop-beside-init : goal.loop-beside-init
loop-beside-init c = part_start c.args.left.now c.args.place c.requires.place c.args.other.now _ c.requires.arities

pub prove-unreachable-requires : goal.prove-unreachable-requires
prove-unreachable-requires c =
    let there = part_there c.args.left.now c.args.place c.requires.place c.args.other.now _ c.loop-beside.at c.loop-beside.beside c.loop-beside.invariant (omega arith) in
    omega arith

pub returns-in-Clash : goal.returns-in-Clash
returns-in-Clash c =
    let left = c.args.left.now in
    let other = c.args.other.now in
    let clash = faced c.args.classes.now (nth_subtree left c.loop-beside.at) (nth_subtree other c.loop-beside.beside) _ _ _ facing.Clash c.cell.ensures.value c.cell-in-loop-beside.ensures.value c.in-Clash.is c.facing_of.ensures in
    let here = part_here left c.args.place c.requires.place other _ c.loop-beside.at c.loop-beside.beside c.loop-beside.invariant (omega arith) in
    (λ yes. cc, λ common. absurd (common here.at (clash_at (in_class_of c.args.classes.now) (nth_subtree left c.args.place) other here.at here.one here.other here.one_stands here.other_stands (rw (here.one_is, here.other_is) clash))))

pub loop-beside-preserved-in-SameHead : goal.loop-beside-preserved-in-SameHead
loop-beside-preserved-in-SameHead c =
    let left = c.args.left.now in
    let other = c.args.other.now in
    let same = faced c.args.classes.now (nth_subtree left c.loop-beside.at) (nth_subtree other c.loop-beside.beside) _ _ _ facing.SameHead c.cell.ensures.value c.cell-in-loop-beside.ensures.value c.in-SameHead.is c.facing_of.ensures in
    part_down left c.args.place c.requires.place other _ c.loop-beside.at c.loop-beside.beside c.loop-beside.invariant (omega arith) (same_head_no_clash (in_class_of c.args.classes.now) _ _ same) same

pub loop-beside-preserved : goal.loop-beside-preserved
loop-beside-preserved c =
    let left = c.args.left.now in
    let other = c.args.other.now in
    let pass = passed c.args.classes.now _ _ _ c.in-Mismatch.is (faced c.args.classes.now (nth_subtree left c.loop-beside.at) (nth_subtree other c.loop-beside.beside) _ _ _ _ c.cell.ensures.value c.cell-in-loop-beside.ensures.value refl c.facing_of.ensures) in
    rw (c.end_of-at.ensures, c.end_of-beside.ensures) (part_past left c.args.place c.requires.place other _ c.loop-beside.at c.loop-beside.beside c.loop-beside.invariant (omega arith) pass.0 pass.1)

pub returns : goal.returns
returns c =
    let part = nth_subtree c.args.left.now c.args.place in
    let other = c.args.other.now in
    let none = part_end c.args.left.now c.args.place c.requires.place other (λ one two. DoClash (in_class_of c.args.classes.now) one two → ⊥) c.loop-beside.at c.loop-beside.beside c.loop-beside.invariant (omega arith) in
    (λ yes q clash. none q clash.one.part clash.other.part clash.one.stands clash.other.stands (do_clash (in_class_of c.args.classes.now) part other q clash), λ common. refl)
