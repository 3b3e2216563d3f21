use Rattle.std.proofs.Common.{sym, ◌∙◌, false}
use Rattle.reducer.proofs.machine.Machine.arrive.Goals as goal

pub returns-then-is_marked : goal.returns-then-is_marked
returns-then-is_marked c = λ rules tabled system table normal outer t is.
    c.leave.ensures.arrived system table c.args.tables.now.sets c.args.store.now.trees outer t is
    (normal c.args.number t is.is_node.stands (sym (c.is_marked.ensures false) ∙ c.if-is_marked.true))

pub returns-else-is_marked : goal.returns-else-is_marked
returns-else-is_marked c = λ rules tabled system table normal outer t is.
    c.begin.ensures rules tabled system table c.args.store.now.trees outer t is
