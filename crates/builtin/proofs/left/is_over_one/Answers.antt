use Rattle.std.proofs.Common.{sym, ◌∙◌, ap, subst}
use Rattle.eq_base.specs.Tree.{nth_subtree}
use Rattle.eq_base.specs.Cells.{root_cell}
use Rattle.builtin.specs.Lefts.{IsHeadCell}
use Rattle.builtin.proofs.Lefts.{over_one_is}
use Rattle.builtin.proofs.left.is_over_one.Goals as goal

pub returns-then-is_head : goal.returns-then-is_head
returns-then-is_head c = (
  λ yes.
      over_one_is c.args.class c.args.left.now (sym c.len.ensures ∙ c.if-len-ne2.false) (subst IsHeadCell c.cell.ensures.value (c.is_head.ensures.0 c.if-is_head.true))
      (sym c.cell-then-is_head.ensures.value ∙ c.is_operand.ensures.0 yes),
  λ is. c.is_operand.ensures.1 (c.cell-then-is_head.ensures.value ∙ ap (λ p. root_cell (nth_subtree p 1)) is.1),
)
