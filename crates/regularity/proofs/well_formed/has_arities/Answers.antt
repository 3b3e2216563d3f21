use Rattle.std.proofs.Common.{◌≡◌, true, arith, refl, below_more}
use Rattle.eq_base.specs.Tree.{nth_subtree}
use Rattle.regularity.specs.WellFormed.{arity_by}
use Rattle.regularity.proofs.Tables.{has_from_heads, part_head_has, cell_has}
use Rattle.regularity.proofs.well_formed.has_arities.Goals as goal

pub loop-at-preserved : goal.loop-at-preserved
loop-at-preserved c =
    let here = cell_has c.args.arities.now (nth_subtree c.args.pattern.now c.loop-at.at) c.cell.result c.cell.ensures.value c.cell.ensures.arity in
    below_more _ _ c.loop-at.invariant (here.0 (c.has_arity.ensures.0 (let yes : c.has_arity.result ≡ true = cc in yes)))

pub returns-then-not-has_arity : goal.returns-then-not-has_arity
returns-then-not-has_arity c =
    let here = cell_has c.args.arities.now (nth_subtree c.args.pattern.now c.loop-at.at) c.cell.result c.cell.ensures.value c.cell.ensures.arity in
    (λ yes. cc, λ has. let fine = c.has_arity.ensures.1 (here.1 (part_head_has (arity_by c.args.arities.now) c.args.pattern.now has c.loop-at.at (omega arith))) in cc)

pub returns : goal.returns
returns c = (λ yes. has_from_heads (arity_by c.args.arities.now) c.args.pattern.now c.loop-at.at (omega arith) c.loop-at.invariant, λ has. refl)
