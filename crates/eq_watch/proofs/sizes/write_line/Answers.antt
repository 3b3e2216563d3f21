use Rattle.std.proofs.Common.{append_assoc}
use Rattle.eq_watch.proofs.sizes.write_line.Goals as goal

pub returns-clause-ok : goal.returns-clause-ok
returns-clause-ok c =
    rw (
      c.in_ok-push.ensures.items,
      c.in_ok-push_counted-3.ensures.ok,
      c.in_ok-push_counted-2.ensures.ok,
      c.in_ok-push_counted.ensures.ok,
    ) (simp append_assoc)
