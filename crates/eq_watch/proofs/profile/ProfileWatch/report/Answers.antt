use Rattle.std.proofs.Common.{arith}
use Rattle.std.proofs.lemmas.Result.{err_from_is_err_and}
use Rattle.eq_watch.proofs.Changing.{Grew-trans}
use Rattle.eq_watch.proofs.Texts.{profile_report}
use Rattle.eq_watch.proofs.profile.ProfileWatch.report.Goals as goal

pub returns-in_err-write_used-clause-err : goal.returns-in_err-write_used-clause-err
returns-in_err-write_used-clause-err c =
    let p = err_from_is_err_and c.from_residual.result c.from_residual.ensures.1 in
    rw p.1 (Grew-trans c.args.into.now.items c.loop-used.into.items c.write_used.new.into.items c.loop-used.invariant.front c.in_err-write_used.ensures.front)

pub returns-clause-ok : goal.returns-clause-ok
returns-clause-ok c =
    profile_report c.args.into.now.items c.loop-used.into.items c.deref-used-items.result.now
    c.self.inside.used.items c.loop-used.used-index c.args.self.now c.loop-used.invariant.text (omega arith)
    c.deref-used-items.ensures.value c.self.view_is
