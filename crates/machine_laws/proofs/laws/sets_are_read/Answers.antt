use Rattle.machine_laws.proofs.ReadSets as laws
use Rattle.machine_laws.proofs.laws.sets_are_read.Goals as goal

pub returns : goal.returns
returns c = record {
  reads = λ table one rules live items next h is_live. laws.reads table one rules live items next h is_live;
  completes = λ table one rules live items e c h is_live. laws.completes table one rules live items e c h is_live;
  first = λ table one rules live items e height h is_live. laws.completes_first table one rules live items e height h is_live;
  skips = λ table one rules live items next. laws.skips table one rules live items next;
  wants_read = λ table one rules live items. laws.wants_read table one rules live items;
  wants_skip = λ table one rules live items. laws.wants_skip table one rules live items;
}
