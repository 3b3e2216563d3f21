use Rattle.std.proofs.Common.{◌<◌, ◌++◌, take, ◌∙◌, length, arith}
use Rattle.std.proofs.lemmas.Grind.{common_steps}
use Rattle.eq_ports.proofs.Known.{appends_both, front_goes_on, front_of_none}
use Rattle.eq_ports.proofs.sink.write_whole.Goals as goal

pub loop-rest-preserved : goal.loop-rest-preserved
loop-rest-preserved g c =
    let some : 0 < length c.loop-rest.rest.now = grind (arith, common_steps) in record {
      front = c.loop-rest.invariant.front ++ take c.in_ok-count.count c.loop-rest.rest.now;
      parts = front_goes_on c.loop-rest.invariant.front c.loop-rest.rest.now c.args.bytes.now c.in_ok-count.count c.loop-rest.invariant.parts;
      appended = appends_both _ _ _ c.loop-rest.invariant.front (take c.in_ok-count.count c.loop-rest.rest.now) c.loop-rest.invariant.appended c.in_ok-count.ensures.bytes;
      steady = c.in_ok-count.ensures.cause.kept ∙ c.loop-rest.invariant.steady;
      uncalled = λ none. absurd (front_of_none c.loop-rest.invariant.front c.loop-rest.rest.now some (c.loop-rest.invariant.parts ∙ none));
    }
