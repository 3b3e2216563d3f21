use Rattle.std.proofs.Common.{sym, subst}
use Rattle.eq_base.proofs.ClassMembers.{derived_decides}
use Rattle.eq_base.specs.contracts.head.HeadPartialEq.TheImpl.{eq-value}
use Rattle.match_tables.specs.Rows.{IsPlaceIn}
use Rattle.match_tables.proofs.Looked.{found-nowhere, found-there}
use Rattle.match_tables.proofs.row.State.looked_up.Goals as goal

pub returns : goal.returns
returns c = found-there eq-value.it derived_decides c.args.self.now.heads.keys c.args.head c.in_ok-place.place c.in_ok-place.field-0-1.now c.in_ok-place.ensures.stored (sym c.in_ok-place.ensures.key)

pub returns-in_err-place : goal.returns-in_err-place
returns-in_err-place c = subst (IsPlaceIn c.args.self.now.heads.keys c.args.head) (sym c.from_residual.ensures) (found-nowhere eq-value.it derived_decides c.args.self.now.heads.keys c.args.head (sym c.in_err-place.ensures.found))
