use Rattle.std.proofs.Common.{arith, length-append}
use Rattle.std.proofs.lemmas.Option.{slice_get_within}
use Rattle.regularity.proofs.Singles.{tells_more}
use Rattle.regularity.proofs.single.tell_singles.Goals as goal

pub loop-number-preserved : goal.loop-number-preserved
loop-number-preserved c =
    rw c.in_ok-push.ensures.items (record {
      lengths = rw (length-append c.loop-number.singles.items _) (omega (arith, c.loop-number.invariant.lengths));
      tells = tells_more c.args.rules.now.equations c.loop-number.singles.items c.loop-number.number c.equation.result.now c.is_single.result c.loop-number.invariant.lengths c.equation.ensures c.is_single.ensures c.loop-number.invariant.tells;
    })

pub returns : goal.returns
returns c = record {
  lengths = omega (arith, c.loop-number.invariant.lengths);
  tells = λ k e there. c.loop-number.invariant.tells k e (omega (arith, slice_get_within c.args.rules.now.equations k e there)) there;
}
