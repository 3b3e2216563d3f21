use Rattle.std.proofs.Common.{refl, subst}
use Rattle.symbol_table.specs.Reading.{read_system}
use Rattle.match_tables.specs.Answering.{IsAdvance}
use Rattle.match_tables.specs.declared.advance.Advance.TheVariants.{Go, Redex}
use Rattle.reducer.proofs.Passed.{head_here}
use Rattle.reducer.proofs.ReadOn.{reads_on}
use Rattle.reducer.proofs.machine.Machine.read.Goals as goal

pub returns-in-Go-clause-goes : goal.returns-in-Go-clause-goes
returns-in-Go-clause-goes c = λ table one rules live tabled outer inner l args items is alive _.
    let head = head_here c.args.store.now c.args.number c.head.result l args is.is_node c.head.ensures in
    let advance = subst (λ h. IsAdvance rules c.args.tables.now.sets items h (Go c.in-Go.next)) head
    (subst (IsAdvance rules c.args.tables.now.sets items c.head.result) c.in-Go.is (c.read.ensures rules tabled items is.set)) in
    reads_on (read_system table rules) table c.args.tables.now.sets c.args.store.now.trees c.args.self.now _ c.args.number c.args.state c.in-Go.next outer inner l args items advance.0.set is
    ((c.sets_are_read.ensures.reads table one rules live items advance.0.set l.0 alive).0 advance.0.read)
    (λ e k done. advance.1 e k ((c.sets_are_read.ensures.completes table one rules live items e k l.0 alive).1 done))
    advance.0.stands refl refl refl refl

pub returns-in-Redex-clause-finds : goal.returns-in-Redex-clause-finds
returns-in-Redex-clause-finds c = λ table one rules live tabled outer inner l args items is alive.
    let head = head_here c.args.store.now c.args.number c.head.result l args is.is_node c.head.ensures in
    let found = Redex c.in-Redex.equation c.in-Redex.height c.in-Redex.next in
    let advance = subst (λ h. IsAdvance rules c.args.tables.now.sets items h found) head
    (subst (IsAdvance rules c.args.tables.now.sets items c.head.result) c.in-Redex.is (c.read.ensures rules tabled items is.set)) in
    (c.sets_are_read.ensures.first table one rules live items c.in-Redex.equation c.in-Redex.height l.0 alive).0 advance.1
