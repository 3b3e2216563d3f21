use Rattle.eq_watch.proofs.Fronts.{told-append, fronts-append}
use Rattle.eq_watch.proofs.laws.told_in_parts.Goals as goal

pub returns : goal.returns
returns c = record { whole = told-append; front = fronts-append }
