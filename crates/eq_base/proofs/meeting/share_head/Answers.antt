use Rattle.std.proofs.Common.{arith}
use Rattle.std.proofs.lemmas.Bool.{eqb-true, eq-eqb}
use Rattle.eq_base.proofs.Clashing.{symbols_share, listed_shares, shares_listed}
use Rattle.eq_base.proofs.meeting.share_head.Goals as goal

pub returns-then-one-ge-FIRST_CLASS : goal.returns-then-one-ge-FIRST_CLASS
returns-then-one-ge-FIRST_CLASS c =
    let share = listed_shares c.args.classes.now c.args.one c.args.other (omega arith) in
    (λ e. share.0 (c.has_member_in.ensures.0 e), λ s. c.has_member_in.ensures.1 (share.1 s))

pub returns-then-other-ge-FIRST_CLASS : goal.returns-then-other-ge-FIRST_CLASS
returns-then-other-ge-FIRST_CLASS c =
    let share = shares_listed c.args.classes.now c.args.one c.args.other (omega arith) in
    let tells = c.has_member_in-then-other-ge-FIRST_CLASS.ensures in
    (λ e. share.0 (tells.0 e), λ s. tells.1 (share.1 s))

pub returns-else-other-ge-FIRST_CLASS : goal.returns-else-other-ge-FIRST_CLASS
returns-else-other-ge-FIRST_CLASS c =
    let share = symbols_share c.args.classes.now c.args.one c.args.other (omega arith) (omega arith) in
    (λ e. share.0 (eqb-true c.args.one c.args.other e), λ s. eq-eqb c.args.one c.args.other (share.1 s))
