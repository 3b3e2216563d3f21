use Rattle.std.proofs.Common.{subst}
use Rattle.match_tables.specs.Tabled.{AreTablesOf}
use Rattle.match_tables.proofs.Closed.{tables-not-past}
use Rattle.match_tables.proofs.tables.Tables.build.Goals as goal

pub returns-in-Ok : goal.returns-in-Ok
returns-in-Ok c =
    let are = subst (λ r. AreTablesOf r c.in-Ok.tables) c.rules.ensures.value c.in-Ok.ensures.ok in
    (are, tables-not-past c.args.regular.now c.in-Ok.tables are)
