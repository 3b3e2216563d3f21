use Rattle.std.proofs.Common.{◌≡◌, refl, arith}
use Rattle.eq_base.specs.Tree.{size}
use Rattle.eq_base.proofs.Trees.{same_cells}
use Rattle.eq_base.proofs.flat.same_tree.Goals as goal

pub returns : goal.returns
returns c =
    let one = c.args.one.now in
    let other = c.args.other.now in
    let sizes : size one ≡ size other = omega arith in
    (λ yes. same_cells one other sizes (λ k lt. c.loop-at.invariant k (omega arith)), λ same. refl)
