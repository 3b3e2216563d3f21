use Rattle.eq_base.specs.Cells.{TakesArguments}
use Rattle.eq_base.proofs.Lists.{all_push}
use Rattle.eq_base.proofs.flat.FlatMaker.push_cell.Goals as goal

pub invariant_of-self-2 : goal.invariant_of-self-2
invariant_of-self-2 c =
    rw c.in_ok-push.ensures.ok
    (all_push (λ l. TakesArguments l.0 l.1) c.self.inside.begun (c.args.head, c.args.arity) c.self.invariant c.requires.taken)
