use Rattle.std.proofs.Common.{Some, arith, sym, ◌∙◌, ap}
use Rattle.eq_base.specs.Cells.{variable_in}
use Rattle.orthogonal_laws.proofs.Binding.{find_start, find_end, find_there, find_head, find_value, find_other}
use Rattle.orthogonal_laws.proofs.replacing.find.Goals as goal

pub loop-i-init : goal.loop-i-init
loop-i-init c = find_start c.args.left.now c.args.term.now c.args.at c.args.variable c.requires.at c.requires.occurs

pub prove-unreachable-requires : goal.prove-unreachable-requires
prove-unreachable-requires c =
    let there = find_there c.args.left.now c.args.term.now c.args.at c.args.variable c.loop-i.i c.loop-i.node c.loop-i.invariant c.requires.fits (omega arith) in
    omega arith

pub loop-i-preserved-in-None : goal.loop-i-preserved-in-None
loop-i-preserved-in-None c =
    let none = ap variable_in (sym c.cell.ensures.value) ∙ sym c.variable.ensures ∙ c.in-None.is in
    find_head c.args.left.now c.args.term.now c.args.at c.args.variable c.loop-i.i c.loop-i.node c.loop-i.invariant c.requires.fits (omega arith) none

pub returns-then-other-variable-clause-value : goal.returns-then-other-variable-clause-value
returns-then-other-variable-clause-value c =
    let own = ap variable_in (sym c.cell.ensures.value) ∙ sym c.variable.ensures ∙ c.in-Some.is ∙ ap Some c.if-other-variable.true in
    find_value c.args.left.now c.args.term.now c.args.at c.args.variable c.loop-i.i c.loop-i.node c.loop-i.invariant c.requires.fits (omega arith) own

pub loop-i-preserved : goal.loop-i-preserved
loop-i-preserved c =
    let other = ap variable_in (sym c.cell.ensures.value) ∙ sym c.variable.ensures ∙ c.in-Some.is in
    rw (c.end_of-i.ensures, c.end_of-node.ensures)
    (find_other c.args.left.now c.args.term.now c.args.at c.args.variable c.loop-i.i c.loop-i.node c.loop-i.invariant c.requires.fits (omega arith) c.in-Some.other other c.if-other-variable.false)

pub unreachable-requires : goal.unreachable-requires
unreachable-requires c = find_end c.args.left.now c.args.term.now c.args.at c.args.variable c.loop-i.i c.loop-i.node c.loop-i.invariant c.requires.fits (omega arith)
