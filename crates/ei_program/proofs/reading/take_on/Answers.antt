use Rattle.std.proofs.Common.{◌∙◌}
use Rattle.ei_program.proofs.Taken.{counted_then}
use Rattle.ei_program.proofs.Counting.{counted_take, takes_less}
use Rattle.ei_program.proofs.Things.{farther, gone_on}
use Rattle.ei_program.proofs.reading.take_on.Goals as goal

pub returns-then-reach-clause-goes : goal.returns-then-reach-clause-goes
returns-then-reach-clause-goes g c =
    let i = c.pieces.invariant in
    gone_on (g.I.Source.left c.args.input.now) (g.I.Source.left c.pieces.input) (g.I.Source.left c.take_more.new.source) c.args.stream.now c.pieces.stream c.take_more.new.self i.gone c.in_ok-take_more.ensures.takes

pub returns-then-reach-clause-farther : goal.returns-then-reach-clause-farther
returns-then-reach-clause-farther g c =
    let i = c.pieces.invariant in
    farther (g.I.Source.left c.pieces.input) (g.I.Source.left c.take_more.new.source) c.args.stream.now c.pieces.stream c.take_more.new.self i.place i.more i.may c.in_ok-take_more.ensures.takes

pub pieces-smaller : goal.pieces-smaller
pieces-smaller g c =
    takes_less (g.I.Source.left c.pieces.input) (g.I.Source.left c.take_more.new.source) c.pieces.stream c.take_more.new.self c.in_ok-take_more.ensures.takes c.pieces.invariant.may

pub pieces-preserved : goal.pieces-preserved
pieces-preserved g c =
    let i = c.pieces.invariant in
    let mid = g.I.Source.left c.pieces.input in
    let left = g.I.Source.left c.take_more.new.source in
    let takes = c.in_ok-take_more.ensures.takes in
    record {
      may = (c.may_change.ensures.0 c.if-not-may_change.false).0;
      count = counted_then (g.I.Source.faults c.args.input.now) (g.I.Source.faults c.pieces.input) (g.I.Source.faults c.take_more.new.source) c.args.stream.now c.pieces.stream c.take_more.new.self i.count
          (counted_take (g.I.Source.faults c.pieces.input) (g.I.Source.faults c.take_more.new.source) mid left c.pieces.stream c.take_more.new.self c.in_ok-take_more.ensures.count takes);
      through = c.in_ok-take_more.ensures.through ∙ i.through;
      place = takes.place ∙ i.place;
      more = (farther mid left c.args.stream.now c.pieces.stream c.take_more.new.self i.place i.more i.may takes).more;
      gone = gone_on (g.I.Source.left c.args.input.now) mid left c.args.stream.now c.pieces.stream c.take_more.new.self i.gone takes;
    }
