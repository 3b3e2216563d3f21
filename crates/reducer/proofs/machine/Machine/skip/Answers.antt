use Rattle.std.proofs.Common.{refl}
use Rattle.symbol_table.specs.Reading.{read_system}
use Rattle.reducer.proofs.ReadOn.{goes_past}
use Rattle.reducer.proofs.machine.Machine.skip.Goals as goal

pub returns : goal.returns
returns c = λ table one rules live tabled trees outer inner l before behind t items is wants.
    let leads = c.skip.ensures rules tabled items is.set in
    goes_past (read_system table rules) table c.args.tables.now.sets trees c.args.self.now _ c.args.at c.args.state c.skip.result outer inner l before behind t items leads.set is
    ((c.sets_are_read.ensures.wants_skip table one rules live items).0 wants)
    ((c.sets_are_read.ensures.skips table one rules live items leads.set).0 leads.skip)
    leads.stands refl refl refl refl
