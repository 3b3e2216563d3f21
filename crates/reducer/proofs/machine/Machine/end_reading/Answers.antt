use Rattle.std.proofs.Common.{refl}
use Rattle.reducer.proofs.ReadOn.{goes_over}
use Rattle.reducer.proofs.machine.Machine.end_reading.Goals as goal

pub returns : goal.returns
returns c = λ system table sets trees at state outer inner l before behind items among wants.
    goes_over system table sets trees c.args.self.now _ at state outer inner l before behind items among wants refl c.clear.ensures.items refl
