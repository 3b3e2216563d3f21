use Rattle.std.proofs.Common.{◌≡◌, sym, ◌∙◌, ap, subst}
use Rattle.eq_base.specs.Tree.{arity_of, size, nth_subtree}
use Rattle.eq_base.specs.Cells.{root_cell, arity_in}
use Rattle.eq_base.specs.declared.head.Cell.TheVariants.{Class}
use Rattle.builtin.specs.Lefts.{IsHeadCell}
use Rattle.builtin.proofs.Lefts.{not_true, over_two_is}
use Rattle.builtin.proofs.left.is_over_two.Goals as goal
use Rattle.builtin.proofs.left.is_over_two.Goals.{then-is_head, else-is_head}

-- the tests before: so many cells, a head at the root, and the first operand
record Begun (c : goal.After-is_operand-then-is_operand) : Type 0 where
  long : size c.args.left.now ≡ 3
  head : IsHeadCell (root_cell (nth_subtree c.args.left.now 0))
  one : root_cell (nth_subtree c.args.left.now 1) ≡ Class 0 c.args.class
  bare : arity_of (nth_subtree c.args.left.now 1) ≡ 0

begun : (c : goal.After-is_operand-then-is_operand) → Begun c
begun c =
    elim c.if-is_head.branch [
      | then-is_head v ↦
          let is = v.is_operand.ensures.0 (sym v.value-is ∙ c.if-is_operand.true) in
          record {
            long = sym c.len.ensures ∙ c.if-len-ne3.false;
            head = subst IsHeadCell c.cell.ensures.value (c.is_head.ensures.0 v.if-is_head.true);
            one = sym v.cell-then-is_head.ensures.value ∙ is;
            bare = sym v.cell-then-is_head.ensures.arity ∙ ap arity_in is;
          }
      | else-is_head v ↦ absurd (not_true (sym v.if-is_head.false ∙ sym v.value-is ∙ c.if-is_operand.true))
    ]

pub returns-then-is_operand : goal.returns-then-is_operand
returns-then-is_operand c = (
  λ yes.
      let b = begun c in
      over_two_is c.args.class c.args.left.now b.long b.head b.one b.bare (sym c.cell-then-is_operand.ensures.value ∙ c.is_operand-then-is_operand.ensures.0 yes),
  λ is. c.is_operand-then-is_operand.ensures.1 (c.cell-then-is_operand.ensures.value ∙ ap (λ p. root_cell (nth_subtree p 2)) is.1),
)
