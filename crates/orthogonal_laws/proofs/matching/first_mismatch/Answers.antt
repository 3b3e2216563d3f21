use Rattle.std.proofs.Common.{◌<◌, arith, sym, ◌∙◌, subst}
use Rattle.eq_base.proofs.Instances.{instance_from_fits}
use Rattle.eq_base.specs.Tree.{size, nth_subtree}
use Rattle.eq_base.specs.Cells.{root_cell}
use Rattle.orthogonal_laws.specs.Matching.{Stands}
use Rattle.eq_base.specs.Meeting.{in_class_of}
use Rattle.orthogonal_laws.proofs.Scan.{scan_start, here_there, scan_end, scan_head, scan_other}
use Rattle.orthogonal_laws.proofs.Failing.{fails_start, fails_here, fails_head, fails_other}
use Rattle.orthogonal_laws.proofs.matching.first_mismatch.Goals as goal

pub loop-i-init : goal.loop-i-init
loop-i-init c = record { past = omega arith; scanned = scan_start c.args.classes.now c.args.left.now c.args.term.now c.args.at c.requires.at; fails = fails_start c.args.classes.now c.args.left.now c.args.term.now c.args.at c.requires.at }

pub prove-unreachable-requires : goal.prove-unreachable-requires
prove-unreachable-requires c =
    let there = here_there c.args.classes.now c.args.left.now c.args.term.now c.args.at c.loop-i.i c.loop-i.node c.loop-i.invariant.scanned (omega arith) in
    omega arith

pub returns-then-not-stands_at : goal.returns-then-not-stands_at
returns-then-not-stands_at c =
    let left = c.args.left.now in
    let term = c.args.term.now in
    let there : c.loop-i.node < size term = omega arith in
    let none : Stands c.args.classes.now (root_cell (nth_subtree left c.loop-i.i)) (nth_subtree term c.loop-i.node) → ⊥ =
    λ stands. let met = c.stands_at.ensures.1 (rw c.cell-cell.ensures.value stands) in cc in
    (c.loop-i.invariant.past, fails_here c.args.classes.now left term c.args.at c.loop-i.i c.loop-i.node c.loop-i.invariant.fails c.loop-i.invariant.past (omega arith) there none)

pub loop-i-preserved-in-Head : goal.loop-i-preserved-in-Head
loop-i-preserved-in-Head c =
    let left = c.args.left.now in
    let term = c.args.term.now in
    let there : c.loop-i.node < size term = omega arith in
    let lt : c.loop-i.i < size left = omega arith in
    let stands = subst (λ cell. Stands c.args.classes.now cell (nth_subtree term c.loop-i.node)) c.cell-cell.ensures.value (c.stands_at.ensures.0 c.if-not-stands_at.false) in
    let e = sym c.cell-cell.ensures.value ∙ c.in-Head.is in
    record {
      past = omega arith;
      scanned = scan_head c.args.classes.now left term c.args.at c.loop-i.i c.loop-i.node c.loop-i.invariant.scanned lt there c.in-Head.field-0 c.in-Head.field-1 e stands;
      fails = fails_head c.args.classes.now left term c.args.at c.loop-i.i c.loop-i.node c.loop-i.invariant.fails c.loop-i.invariant.past lt there c.in-Head.field-0 c.in-Head.field-1 e stands;
    }

pub loop-i-preserved : goal.loop-i-preserved
loop-i-preserved c =
    let left = c.args.left.now in
    let term = c.args.term.now in
    let there : c.loop-i.node < size term = omega arith in
    let lt : c.loop-i.i < size left = omega arith in
    let stands = subst (λ cell. Stands c.args.classes.now cell (nth_subtree term c.loop-i.node)) c.cell-cell.ensures.value (c.stands_at.ensures.0 c.if-not-stands_at.false) in
    let other = scan_other c.args.classes.now left term c.args.at c.loop-i.i c.loop-i.node c.loop-i.invariant.scanned lt there (λ g a e. c.in_default.not-Head g a (c.cell-cell.ensures.value ∙ e)) stands in
    let fails = fails_other c.args.classes.now left term c.args.at c.loop-i.i c.loop-i.node c.loop-i.invariant.fails c.loop-i.invariant.past lt there (λ g a e. c.in_default.not-Head g a (c.cell-cell.ensures.value ∙ e)) stands in
    record { past = omega arith; scanned = rw (c.end_of-i.ensures, c.end_of-node.ensures) other; fails = rw (c.end_of-i.ensures, c.end_of-node.ensures) fails }

pub returns : goal.returns
returns c =
    instance_from_fits (in_class_of c.args.classes.now) c.args.left.now _ c.requires.linear (scan_end c.args.classes.now c.args.left.now c.args.term.now c.args.at c.loop-i.i c.loop-i.node c.loop-i.invariant.scanned (omega arith))
